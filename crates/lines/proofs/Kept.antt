-- Laws that no proof cites any more, and that stand.
use Rattle.std.specs.Prelude.{◌≡◌, refl, true, false, List, [], ◌∷◌, ℕ, zero, suc, ◌+◌, ◌-◌, ◌≤◌, ◌<◌, length, drop, get_or, Option, Some, None}
use Rattle.std.proofs.Common.{sym, ap, ◌∙◌, arith, add-one, drop-cons, drop_of_length-le, ne_eqb}
use Rattle.directed.specs.declared.Rounding.{Rounding}
use Rattle.directed.specs.Thousandths.{Pair}
use Rattle.directed.specs.Answer.{Outcome, value, refusal, built, unjudged_binary}
use Rattle.directed.specs.Equation.{unjudged_equation}
use Rattle.text.specs.Answer.{read}
use Rattle.lines.specs.declared.Operation.{Operation}
use Rattle.lines.specs.declared.Operation.TheVariants.{Two, Equation}
use Rattle.lines.specs.Absent.{absent}
use Rattle.lines.specs.Line.{with_pair, two, three, operate}
use Rattle.lines.specs.Cut.{some-field, first_line, ends_field, stop, fields_from, field_end, scan_hit, scan_miss}
use Rattle.lines.specs.Rest.{limited, counted}
use Rattle.lines.proofs.RestLaws.{built-limited}
pub mod Cut
pub mod Rest
pub mod Ended
pub mod Stream
pub mod Letters
pub mod Alone
pub mod LineLaws
pub mod Causes
pub mod PairField

-- ---- a byte that stands nowhere, looked for from the front and from behind
module _ (x : ℕ) where
  pub absent-miss : (s : List ℕ) (i : ℕ) → i < length s → (get_or s i 0 ≡ x → ⊥) → absent x (drop i s) ≡ absent x (drop (i + 1) s)
  absent-miss s i h n = rw (drop-cons s i 0 h, ne_eqb (get_or s i 0) x n, add-one)

pub last_end_start : (s : List ℕ) (n : ℕ) → n ≡ length s → absent 10 (drop n s) ≡ true
last_end_start s n e = ap (absent 10) (drop_of_length-le s {i = n} (omega arith))

pub last_end_next : (s : List ℕ) (n : ℕ) → 0 < n → n ≤ length s → (get_or s (n - 1) 0 ≡ 10 → ⊥) → absent 10 (drop n s) ≡ true → absent 10 (drop (n - 1) s) ≡ true
last_end_next s n h k e a =
    let i : n - 1 + 1 ≡ n = omega arith in
    absent-miss 10 s (n - 1) (omega arith) e ∙ ap (λ j. absent 10 (drop j s)) i ∙ a

-- ---- one byte of the scan
module _ (s : List ℕ) (i : ℕ) (h : i < length s) where
  pub stop-hit : ends_field (get_or s i 0) ≡ true → i ≡ i + stop (drop i s)
  unfolding field_end
  stop-hit e = sym (scan_hit s i h e)

  pub stop-miss : ends_field (get_or s i 0) ≡ false → (i + 1) + stop (drop (i + 1) s) ≡ i + stop (drop i s)
  unfolding field_end
  stop-miss e = sym (scan_miss s i h e)

pub limited-built : (n : ℕ) (o : Outcome Pair) → limited n (built o) ≡ built (limited n o)
limited-built n o = sym (built-limited n o)

-- ---- the pairs of a line, counted down: how many an operation wants, and what it answers on the last two of three pairs, or the equation on all
unfoldable pub wanted : Option Operation → ℕ
wanted (Some (Two operation)) = 2
wanted (Some Equation) = 3
wanted None = 0

unfoldable pub final : Option Operation → Rounding → Pair → Pair → Pair → Outcome Pair
final (Some (Two operation)) rounding a c b = unjudged_binary rounding operation c b
final (Some Equation) rounding a c b = unjudged_equation rounding a c b
final None rounding a c b = refusal 6

-- one pair is left
abbrev one : (Pair → Outcome Pair) → List (List ℕ) → Outcome Pair
one f [] = refusal 12
one f (p ∷ []) = with_pair (read p) f
one f (p ∷ q ∷ ps) = refusal 12

-- what is answered if so many of three pairs are left, the others having been read
unfoldable pub remaining : ℕ → (Pair → Pair → Pair → Outcome Pair) → Pair → Pair → List (List ℕ) → Outcome Pair
remaining zero f a c ps = refusal 12
remaining (suc zero) f a c ps = one (f a c) ps
remaining (suc (suc zero)) f a c ps = two (f a) ps
remaining (suc (suc (suc zero))) f a c ps = three f ps
remaining (suc (suc (suc (suc n)))) f a c ps = refusal 12

pub remaining-all : (o : Option Operation) (rounding : Rounding) (a c : Pair) (ps : List (List ℕ)) → 1 ≤ wanted o
    → remaining (wanted o) (final o rounding) a c ps ≡ operate o rounding ps
unfolding wanted final remaining operate
remaining-all (Some (Two operation)) rounding a c ps h = refl
remaining-all (Some Equation) rounding a c ps h = refl
remaining-all None rounding a c ps h = absurd (omega arith)

pub wanted-most : (o : Option Operation) → wanted o ≤ 3
unfolding wanted
wanted-most (Some (Two operation)) = omega arith
wanted-most (Some Equation) = omega arith
wanted-most None = omega arith

module _ (f : Pair → Pair → Pair → Outcome Pair) (a c : Pair) (p : List ℕ) where
  pub remaining-refused : (k : ℕ) → read p ≡ refusal k → (n : ℕ) (ps : List (List ℕ)) → 1 ≤ n → n ≤ 3 → refusal (counted k n (length (p ∷ ps))) ≡ remaining n f a c (p ∷ ps)
  unfolding counted remaining
  remaining-refused k e zero ps h g = absurd (omega arith)
  remaining-refused k e (suc zero) [] h g = rw e
  remaining-refused k e (suc zero) (q ∷ ps) h g = rw (ne_eqb (length (p ∷ q ∷ ps)) 1 (omega arith))
  remaining-refused k e (suc (suc zero)) [] h g = refl
  remaining-refused k e (suc (suc zero)) (q ∷ []) h g = rw e
  remaining-refused k e (suc (suc zero)) (q ∷ r ∷ ps) h g = rw (ne_eqb (length (p ∷ q ∷ r ∷ ps)) 2 (omega arith))
  remaining-refused k e (suc (suc (suc zero))) [] h g = refl
  remaining-refused k e (suc (suc (suc zero))) (q ∷ []) h g = refl
  remaining-refused k e (suc (suc (suc zero))) (q ∷ r ∷ []) h g = rw e
  remaining-refused k e (suc (suc (suc zero))) (q ∷ r ∷ t ∷ ps) h g = rw (ne_eqb (length (p ∷ q ∷ r ∷ t ∷ ps)) 3 (omega arith))
  remaining-refused k e (suc (suc (suc (suc n)))) ps h g = absurd (omega arith)

  module _ (v : Pair) (e : read p ≡ value v) where
    pub remaining-last : remaining 1 f a c (p ∷ []) ≡ f a c v
    unfolding remaining
    remaining-last = rw e

    pub remaining-second : (n : ℕ) (ps : List (List ℕ)) → n ≡ 2 → remaining n f a c (p ∷ ps) ≡ remaining (n - 1) f a v ps
    unfolding remaining
    remaining-second n ps h = rw h (go ps)
      where
        go : (ps : List (List ℕ)) → two (f a) (p ∷ ps) ≡ one (f a v) ps
        go [] = refl
        go (q ∷ []) = rw e
        go (q ∷ r ∷ ps) = refl

    pub remaining-first : (n : ℕ) (ps : List (List ℕ)) → n ≡ 3 → remaining n f a c (p ∷ ps) ≡ remaining (n - 1) f v c ps
    unfolding remaining
    remaining-first n ps h = rw h (go ps)
      where
        go : (ps : List (List ℕ)) → three f (p ∷ ps) ≡ two (f v) ps
        go [] = refl
        go (q ∷ []) = refl
        go (q ∷ r ∷ []) = rw e
        go (q ∷ r ∷ t ∷ ps) = refl

  pub remaining-few : (n : ℕ) → (n ≡ 1 → ⊥) → remaining n f a c (p ∷ []) ≡ refusal 12
  unfolding remaining
  remaining-few zero h = refl
  remaining-few (suc zero) h = absurd (h refl)
  remaining-few (suc (suc zero)) h = refl
  remaining-few (suc (suc (suc zero))) h = refl
  remaining-few (suc (suc (suc (suc n)))) h = refl

  pub remaining-many : (n : ℕ) → n ≡ 1 → (s : List ℕ) (i : ℕ) → remaining n f a c (p ∷ fields_from s i) ≡ refusal 12
  unfolding remaining fields_from
  remaining-many n h s i = rw h (some-field (λ fs. one (f a c) (p ∷ fs) ≡ refusal 12) (λ g gs. refl) (first_line (drop i s)))
