-- Laws that no proof cites any more, and that stand: an end as 01 writes it, at a place, its value and the place behind it apart.
use Rattle.std.specs.Prelude.{◌≡◌, ℕ, ◌-◌, ◌≤◌, true, false, List, length, drop, ℤ, slice_index, None}
use Rattle.std.proofs.Math.Path.{sym}
use Rattle.text.specs.Text.{point}
use Rattle.text.specs.Form.{end_form}
use Rattle.text.specs.Answer.{found, stops, written_end}
use Rattle.text.proofs.WrittenEnd as laws
use Rattle.text.proofs.Kept.FrontLaws.{Is}

module _ (s : List ℕ) (from : ℕ) where
  pub written_none : length s ≤ from → None ≡ written_end s from
  written_none h = sym (laws.written_none s from h)

  pub written_open : stops (slice_index s (length s - 1)) ≡ false → None ≡ written_end s from
  written_open e = sym (laws.written_open s from e)

  module _ (o : stops (slice_index s (length s - 1)) ≡ true) where
    pub written_missing : end_form (drop from s) ≡ false → None ≡ written_end s from
    written_missing e = sym (laws.written_missing s from o e)

    module _ {v : ℤ} {next : ℕ} (i : Is (drop from s) from v next) where
      pub written_short : ((4 ≤ next - from) × (slice_index s (next - 4) ≡ point) → ⊥) → None ≡ written_end s from
      written_short n = sym (laws.written_short s from o {r = record { value = v; next = next }} (record { in_form = i.in_form; amount = i.amount; behind = i.behind }) n)

      pub written_found : 4 ≤ next - from → slice_index s (next - 4) ≡ point → found v next ≡ written_end s from
      written_found h e = laws.written_found s from o {r = record { value = v; next = next }} (record { in_form = i.in_form; amount = i.amount; behind = i.behind }) h e
