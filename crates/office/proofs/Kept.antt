-- Laws that no proof cites any more, and that stand: an end behind its mark, and a text that `)` ends, a value and the place behind it apart.
use Rattle.std.specs.Prelude.{◌≡◌, ℕ, ◌-◌, ◌≤◌, ◌<◌, ℤ, nat_abs, List, length, get_or, None}
use Rattle.std.proofs.Common.{sym}
use Rattle.directed.specs.Answer.{refusal, within_range}
use Rattle.text.specs.Answer.{found}
use Rattle.text.specs.EndLaws.{seven_places}
use Rattle.office.specs.Spread.{around, opening, semicolon}
use Rattle.office.specs.Answer.{read}
use Rattle.office.specs.Parts.{end_behind, from_radius_on}
use Rattle.office.specs.ReadLaws as laws
use Rattle.office.specs.ReadLaws.{Closed}
use Rattle.office.proofs.Opened as opened

module _ (b : ℕ) (s : List ℕ) (at : ℕ) where
  pub behind_none : length s ≤ at → None ≡ end_behind b s at
  behind_none h = sym (laws.behind_none b s at h)

  pub behind_other : at < length s → (get_or s at 0 ≡ b → ⊥) → None ≡ end_behind b s at
  behind_other h n = sym (laws.behind_other b s at h n)

  pub behind_small : (r : ℤ) (next : ℕ) → found r next ≡ end_behind b s at → nat_abs r < seven_places
  behind_small r next e = opened.behind_small b s at (record { value = r; next = next }) (sym e)

-- the radius, and nothing behind its mark

module _ (m : ℤ) (s : List ℕ) (at : ℕ) where
  pub radius_missing : None ≡ end_behind semicolon s at → refusal 1 ≡ from_radius_on m s at
  radius_missing e = sym (laws.radius_missing m s at (sym e))

  pub radius_longer : (r : ℤ) (next : ℕ) → found r next ≡ end_behind semicolon s at → (length s - 1 ≡ next → ⊥) → refusal 1 ≡ from_radius_on m s at
  radius_longer r next e n = sym (laws.radius_longer m s at (record { value = r; next = next }) (sym e) n)

  pub radius_closed : (r : ℤ) (next : ℕ) → found r next ≡ end_behind semicolon s at → length s - 1 ≡ next → within_range 2 (around m r) ≡ from_radius_on m s at
  radius_closed r next e n = sym (laws.radius_closed m s at (record { value = r; next = next }) (sym e) n)

-- a text that `)` ends

module _ (s : List ℕ) (k : Closed s) where
  pub read-missing : None ≡ end_behind opening s 0 → refusal 1 ≡ read s
  read-missing e = sym (laws.read-missing s k (sym e))

  pub read_found : (m : ℤ) (at : ℕ) → found m at ≡ end_behind opening s 0 → from_radius_on m s at ≡ read s
  read_found m at e = sym (laws.read_found s k (record { value = m; next = at }) (sym e))
