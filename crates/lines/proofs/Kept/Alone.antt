-- Laws that no proof cites any more, and that stand: a line alone, with 0 in the place of byte 10.
use Rattle.std.specs.Prelude.{◌≡◌, refl, Bool, true, false, cond, List, [], ◌∷◌, ◌++◌, ℕ, ◌≤◌, eqb, length}
use Rattle.std.proofs.Common.{sym, ap, ◌∙◌, arith, eqb-true, ne_eqb}
use Rattle.text.specs.Clean.{Clean}
use Rattle.lines.specs.Absent.{absent}
use Rattle.lines.specs.Alone.{unmarked_byte, unmarked}
use Rattle.lines.proofs.Kept.Letters.{one_letter}

pub unmarked-length : (s : List ℕ) → length (unmarked s) ≡ length s
unmarked-length [] = refl
unmarked-length (b ∷ s) = omega (arith, unmarked-length s)

pub unmarked-append : (s t : List ℕ) → unmarked (s ++ t) ≡ unmarked s ++ unmarked t
unmarked-append [] t = refl
unmarked-append (b ∷ s) t = ap (λ l. unmarked_byte b ∷ l) (unmarked-append s t)

-- letters
pub unmarked-letter : {A : Type 0} (meaning : ℕ → A) (other : A) → meaning 0 ≡ other → meaning 10 ≡ other → (f : List ℕ) → one_letter meaning other (unmarked f) ≡ one_letter meaning other f
unfolding one_letter
unmarked-letter meaning other z t [] = refl
unmarked-letter meaning other z t (b ∷ []) = go (eqb b 10) refl
  where
    go : (x : Bool) → eqb b 10 ≡ x → meaning (cond x 0 b) ≡ meaning b
    go true e = z ∙ sym (ap meaning (eqb-true b 10 e) ∙ t)
    go false e = refl
unmarked-letter meaning other z t (b ∷ c ∷ f) = refl

-- a pair has no byte 10, and what has one is no pair with 0 in its place either
pub unmarked-same : (s : List ℕ) → absent 10 s ≡ true → unmarked s ≡ s
unmarked-same [] h = refl
unmarked-same (b ∷ s) h = go (eqb b 10) h (unmarked-same s)
  where
    go : (x : Bool) → cond x false (absent 10 s) ≡ true → (absent 10 s ≡ true → unmarked s ≡ s) → cond x 0 b ∷ unmarked s ≡ b ∷ s
    go true h f = let z : ◌≡◌ {A = ℕ} 0 1 = cc in absurd (omega arith)
    go false h f = ap (λ l. b ∷ l) (f h)

pub clean_absent : (s : List ℕ) → Clean s → absent 10 s ≡ true
clean_absent [] c = refl
clean_absent (b ∷ s) c = rw (ne_eqb b 10 (omega (arith, c.0))) (clean_absent s c.2)

pub unmarked-clean : (s : List ℕ) → Clean (unmarked s) → absent 10 s ≡ true
unmarked-clean [] c = refl
unmarked-clean (b ∷ s) c = go (eqb b 10) c.0 (unmarked-clean s c.2)
  where
    go : (x : Bool) → 44 ≤ cond x 0 b → absent 10 s ≡ true → cond x false (absent 10 s) ≡ true
    go true h f = absurd (omega arith)
    go false h f = f
