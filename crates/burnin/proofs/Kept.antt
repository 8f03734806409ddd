-- Laws that no proof cites any more, and that stand.
use Rattle.std.specs.Prelude.{◌≡◌, refl, Bool, true, false, cond, not, Result, Ok, Err, List, [], ◌∷◌, ◌++◌, map, ℕ, zero, suc, ◌+◌, ◌-◌, ◌*◌, ◌≤◌, ◌<◌, ◌^◌, ℤ, eqb, leb, length, take, drop, get_or, if◌then◌else◌}
use Rattle.std.proofs.Common.{sym, ap, ap₂, ◌∙◌, le-leb, leb-true, leb-false, drop-drop, arith, add-zero, true≢false, append_assoc, length-append, length-drop, drop-cons, drop_of_length-le, length-take-le, take_at, eq-eqb, ne_eqb, eqb-true}
use Rattle.std.proofs.lemmas.Bool.{false≢true, eqb-false, lt-leb}
use Rattle.std.proofs.lemmas.List.{append-nil}
use Rattle.directed.specs.declared.Interval.{Interval}
use Rattle.directed.specs.declared.Kind.{Kind}
use Rattle.directed.specs.declared.Cause.{Cause}
use Rattle.directed.specs.declared.Refusal.{Refusal}
use Rattle.directed.specs.Thousandths.{Pair}
use Rattle.directed.specs.Answer.{number}
use Rattle.directed.specs.Kind.{rank}
use Rattle.directed.specs.KindLaws.{rank-injective}
use Rattle.directed_laws.specs.Answer.{number-injective}
use Rattle.directed.specs.Located.{refusal}
use Rattle.decimal.specs.Digits.{decimal}
use Rattle.decimal.specs.Place.{Placed, over}
use Rattle.decimal.specs.PlaceLaws.{Wrote, placed_fitting, fitting_then, put_front, put-length}
use Rattle.lines.specs.Cut.{first_line, line_end}
use Rattle.series.specs.Series.{Told, found}
use Rattle.series.specs.Returned.{Stands, stands, no_list}
use Rattle.burnin.specs.Input.{pair_bytes, printed}
use Rattle.burnin.specs.Printed.{number_short}
use Rattle.burnin.specs.Lists.{eight}
pub mod Lists
pub mod Stages
pub mod Runs

-- ---- where a line ends, looked for byte by byte
module _ (s : List ℕ) (at : ℕ) where
  pub end_passed : at < length s → (get_or s at 0 ≡ 10 → ⊥) → line_end s at ≡ line_end s (at + 1)
  unfolding line_end first_line
  end_passed h n =
      let e : at + 1 ≡ suc at = omega arith in
      rw (e, drop-cons s at 0 h, ne_eqb (get_or s at 0) 10 n) (omega arith)

  pub end_mark : at < length s → get_or s at 0 ≡ 10 → line_end s at ≡ at
  unfolding line_end first_line
  end_mark h m = rw (drop-cons s at 0 h, eq-eqb (get_or s at 0) 10 m) (add-zero at)

  pub end_over : length s ≤ at → line_end s at ≡ at
  unfolding line_end first_line
  end_over h = rw (drop_of_length-le s {i = at} h) (add-zero at)

pub first_front : (t : List ℕ) → (length (first_line t) ≤ length t) × (take (length (first_line t)) t ≡ first_line t)
unfolding first_line
first_front [] = (omega arith, refl)
first_front (b ∷ t) = go (eqb b 10) (first_front t)
  where
    go : (x : Bool) → (length (first_line t) ≤ length t) × (take (length (first_line t)) t ≡ first_line t)
        → (length (cond x [] (b ∷ first_line t)) ≤ suc (length t)) × (take (length (cond x [] (b ∷ first_line t))) (b ∷ t) ≡ cond x [] (b ∷ first_line t))
    go true q = (omega arith, refl)
    go false q = (omega (arith, q.0), ap (λ l. b ∷ l) q.1)

module _ (s : List ℕ) (from : ℕ) (h : from ≤ length s) where
  pub end_inside : (from ≤ line_end s from) × (line_end s from ≤ length s)
  unfolding line_end
  end_inside = (omega arith, omega (arith, (first_front (drop from s)).0, length-drop from s))

  pub line_cut : take (line_end s from - from) (drop from s) ≡ first_line (drop from s)
  unfolding line_end
  line_cut = let e : from + length (first_line (drop from s)) - from ≡ length (first_line (drop from s)) = omega arith in rw e (first_front (drop from s)).1

-- ---- the bytes of pairs, one behind another
unfoldable pub all_bytes : List Pair → List ℕ
all_bytes [] = []
all_bytes (p ∷ ps) = pair_bytes p ++ all_bytes ps

pub bytes_length : (ps : List Pair) → length (all_bytes ps) ≡ 8 * length ps
unfolding all_bytes
bytes_length [] = refl
bytes_length (p ∷ ps) = omega (arith, length-append (pair_bytes p) (all_bytes ps), bytes_length ps)

pub bytes_behind : (ps : List Pair) (p : Pair) → all_bytes ps ++ pair_bytes p ≡ all_bytes (ps ++ (p ∷ []))
unfolding all_bytes
bytes_behind [] p = sym (append-nil (pair_bytes p))
bytes_behind (q ∷ ps) p = append_assoc (pair_bytes q) (all_bytes ps) (pair_bytes p) ∙ ap (λ l. pair_bytes q ++ l) (bytes_behind ps p)

pub wrote_length : {t d l : List ℕ} {next : ℕ} → Wrote t 0 d next l → 0 + length t ≤ length d → length l ≡ length d
wrote_length {t} {d} w h = ap length w.buffer_is ∙ put-length t d 0 h

leb-more : (x m n : ℕ) → leb (x + m) (x + n) ≡ leb m n
leb-more x m n = go (leb m n) refl
  where
    go : (b : Bool) → leb m n ≡ b → leb (x + m) (x + n) ≡ leb m n
    go true e = le-leb (x + m) (x + n) (omega (arith, leb-true m n e)) ∙ sym e
    go false e = lt-leb (x + m) (x + n) (omega (arith, leb-false m n e)) ∙ sym e

-- THE BYTES OF A CONSTANT ARE THE EIGHT AT ITS PLACE: of all constants' bytes, one behind another; none where there is no such constant.
pub eight-is : (ps : List Pair) (p : ℕ) → eight (map pair_bytes ps) p ≡ (if leb (p * 8 + 8) (length (all_bytes ps)) then take 8 (drop (p * 8) (all_bytes ps)) else [])
unfolding eight all_bytes
eight-is [] p = rw (absent p)
  where
    absent : (p : ℕ) → leb (p * 8 + 8) 0 ≡ false
    absent p = lt-leb (p * 8 + 8) 0 (omega arith)
eight-is (q ∷ ps) zero =
    let l : leb (0 * 8 + 8) (length (all_bytes (q ∷ ps))) ≡ true = le-leb (0 * 8 + 8) (length (all_bytes (q ∷ ps))) (omega (arith, bytes_length (q ∷ ps))) in
    sym (ap (λ x. if x then take 8 (drop (0 * 8) (all_bytes (q ∷ ps))) else []) l)
eight-is (q ∷ ps) (suc p) =
    let i : suc p * 8 + 8 ≡ 8 + (p * 8 + 8) = omega arith in
    let j : length (all_bytes (q ∷ ps)) ≡ 8 + length (all_bytes ps) = omega (arith, length-append (pair_bytes q) (all_bytes ps)) in
    let k : suc p * 8 ≡ 8 + p * 8 = omega arith in
    let a : leb (suc p * 8 + 8) (length (all_bytes (q ∷ ps))) ≡ leb (p * 8 + 8) (length (all_bytes ps)) = ap₂ leb i j ∙ leb-more 8 (p * 8 + 8) (length (all_bytes ps)) in
    let b : drop (suc p * 8) (all_bytes (q ∷ ps)) ≡ drop (p * 8) (all_bytes ps) = ap (λ n. drop n (all_bytes (q ∷ ps))) k ∙ sym (drop-drop (p * 8) 8 (all_bytes (q ∷ ps))) in
    eight-is ps p ∙ sym (ap₂ (λ x t. if x then take 8 t else []) a b)

-- ---- a list that is handed on
pub stands_moved : {t : Told} {n i : ℕ} {l d l' : List ℕ} → Stands t n l → n ≤ length d → Placed (take n l) 0 d i l' → Stands t n l'
unfolding over
stands_moved (no_list z e) h p = no_list z e
stands_moved {n = n} {l = l} {d = d} {l' = l'} (stands a b e) h p =
    let m = length-take-le n l b in
    let w : l' ≡ take n l ++ drop (length (take n l)) d = (placed_fitting p (omega arith)).buffer_is ∙ put_front (take n l) d in
    let f : take n l' ≡ take n l = ap (take n) w ∙ take_at (take n l) (drop (length (take n l)) d) n m in
    stands a (rw w (omega (arith, length-append (take n l) (drop (length (take n l)) d)))) (e ∙ ap found (sym f))

pub stands_inside : {t : Told} {n : ℕ} {l : List ℕ} → Stands t n l → n ≤ length l
stands_inside (stands a b e) = b
stands_inside (no_list z e) = omega arith

-- ---- what a test of two answers tells: that they differ
-- true where P does not hold, and false where it does
pub record Tells (r : Bool) (P : Type 0) : Type 0 where
  pub apart : r ≡ true → P → ⊥
  pub same : r ≡ false → P

pub tells_apart : {P : Type 0} → (P → ⊥) → Tells true P
tells_apart n = record { apart = λ e. n; same = λ e. absurd (true≢false e) }

pub tells_same : {P : Type 0} {r : Bool} → Tells r P → P → r ≡ false
tells_same {r = true} t p = absurd (t.apart refl p)
tells_same {r = false} t p = refl

pub tells_as : {P Q : Type 0} {r : Bool} → (P → Q) → (Q → P) → Tells r P → Tells r Q
tells_as f g t = record { apart = λ e q. t.apart e (g q); same = λ e. f (t.same e) }

-- by two numbers
pub tells_numbers : (m n : ℕ) → Tells (not (eqb m n)) (m ≡ n)
tells_numbers m n = go (eqb m n) refl
  where
    go : (b : Bool) → eqb m n ≡ b → Tells (not b) (m ≡ n)
    go true e = record { apart = λ z. absurd (false≢true z); same = λ z. eqb-true m n e }
    go false e = tells_apart (eqb-false m n e)

made : ℤ → ℤ → Kind → Interval
made l u k = record { lower = l; upper = u; kind = k }

pub tells_kinds : {a b : Interval} {m n : ℕ} → a.lower ≡ b.lower → a.upper ≡ b.upper → m ≡ rank a.kind → n ≡ rank b.kind → Tells (not (eqb m n)) (a ≡ b)
unfolding made
tells_kinds {a} {b} {m} {n} l u p q =
    tells_as
    (λ e. let k : a.kind ≡ b.kind = rank-injective a.kind b.kind (sym p ∙ e ∙ q) in λ i. made (l i) (u i) (k i))
    (λ e. p ∙ ap (λ x. rank x.kind) e ∙ sym q)
    (tells_numbers m n)

-- ---- of answers
abbrev valued : Interval → Result Interval (Refusal ℕ)
valued a = Ok a

abbrev refusal_at : Cause → ℕ → Refusal ℕ
refusal_at c k = record { cause = c; place = k }

abbrev refused : Cause → ℕ → Result Interval (Refusal ℕ)
refused c k = Err (refusal_at c k)

pub value_apart : {a : Interval} {c : Cause} {k : ℕ} → valued a ≡ refused c k → ⊥
value_apart e = let z : ◌≡◌ {A = ℕ} 0 1 = cc in omega arith

pub tells_values : {a b : Interval} {r : Bool} → Tells r (a ≡ b) → Tells r (valued a ≡ valued b)
tells_values {a} {b} = tells_as (ap valued) (λ e. let f : a ≡ b = cc in f)

pub steps_apart : {c d : Cause} {j k : ℕ} → (j ≡ k → ⊥) → refused c j ≡ refused d k → ⊥
steps_apart {c = c} {d = d} {j = j} {k = k} n e = let f : refusal_at c j ≡ refusal_at d k = cc in n (ap (λ (x : Refusal ℕ). x.place) f)

pub tells_causes : {c d : Cause} {j k m n : ℕ} → j ≡ k → m ≡ number c → n ≡ number d → Tells (not (eqb m n)) (refused c j ≡ refused d k)
tells_causes {c} {d} {j} {k} {m} {n} s p q =
    tells_as
    (λ e. let f : c ≡ d = number-injective c d (sym p ∙ e ∙ q) in λ i. refused (f i) (s i))
    (λ e. let f : refusal_at c j ≡ refusal_at d k = cc in p ∙ ap (λ (x : Refusal ℕ). number x.cause) f ∙ sym q)
    (tells_numbers m n)

-- ---- a refusal's line, put together
module _ {d d₁ d₂ d₃ d₄ : List ℕ} {i j k m : ℕ} (room : 32 ≤ length d) where
  pub refusal-wrote : {d₅ : List ℕ} {e : ℕ} (n line : ℕ) → n < 2 ^ 32 → line < 2 ^ 32
      → Placed (82 ∷ 32 ∷ []) 0 d i d₁ → Placed (decimal n) i d₁ j d₂ → Placed (32 ∷ []) j d₂ k d₃ → Placed (decimal line) k d₃ m d₄ → Placed (10 ∷ []) m d₄ e d₅
      → Wrote (printed (refusal n line)) 0 d e d₅
  unfolding printed
  refusal-wrote n line h f p q r s t =
      fitting_then (placed_fitting p) (fitting_then (placed_fitting q) (fitting_then (placed_fitting r) (fitting_then (placed_fitting s) (placed_fitting t))))
      (omega (arith, length-append (decimal n) (32 ∷ (decimal line ++ (10 ∷ []))), length-append (decimal line) (10 ∷ []), number_short n h, number_short line f))
