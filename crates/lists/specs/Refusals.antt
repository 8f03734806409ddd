-- What refuses a list: the cause that holds and none earlier in the order, with the cause's step; 4 and 5 are judged on each step in the way it is
-- wanted, at the earliest step to which either applies, and on no other value.
use Rattle.std.specs.Prelude.{◌≡◌, true, List, [], ◌∷◌, ℕ}
use Rattle.directed.specs.declared.Rounding.{Rounding}
use Rattle.directed.specs.declared.Unary.{Unary}
use Rattle.directed.specs.declared.Binary.{Binary}
use Rattle.directed.specs.Exact.{sort}
use Rattle.directed.specs.Operations as operations
use Rattle.directed.specs.Thousandths as thousandths
use Rattle.directed.specs.Thousandths.{Pair, exact, beyond_range, rounded, under}
use Rattle.directed.specs.Answer.{sound, cause, stop}
use Rattle.lists.specs.Lists.{Located, value, refusal, after, Expression, one, two, evaluated}
use Rattle.lists.specs.Endings.{Ending}
use Rattle.lists.specs.Ways.{Wanted}

-- ---- an expression that is wanted in the way w is refused with the number n at step k: that step has the cause, on the values that it takes in
-- the way in which they are wanted, and every step before it has a value in the way in which it is wanted
pub data Blame : Rounding → Expression → ℕ → ℕ → Type 0 where
  -- 5: "divisor, or c, holds zero"
  zero_divisor : {w : Rounding} {k : ℕ} {g : Binary} {a b : Expression} {x y : Pair} → evaluated w a ≡ value x → evaluated w b ≡ value y
      → stop g (sort (exact y)) ≡ cause 5 → Blame w (two k g a b) 5 k
  -- 4: "a rounded end beyond the range"
  beyond_one : {w : Rounding} {k : ℕ} {f : Unary} {a : Expression} {x : Pair} → evaluated (under f w) a ≡ value x
      → beyond_range (thousandths.unary f x) ≡ true → Blame w (one k f a) 4 k
  beyond_two : {w : Rounding} {k : ℕ} {g : Binary} {a b : Expression} {x y : Pair} → evaluated w a ≡ value x → evaluated w b ≡ value y
      → stop g (sort (exact y)) ≡ sound → beyond_range (rounded w (operations.binary g (exact x) (exact y))) ≡ true → Blame w (two k g a b) 4 k
  in_one : {w : Rounding} {j k n : ℕ} {f : Unary} {a : Expression} → Blame (under f w) a n k → Blame w (one j f a) n k
  in_first : {w : Rounding} {j k n : ℕ} {g : Binary} {a b : Expression} → Blame w a n k → Blame w (two j g a b) n k
  in_second : {w : Rounding} {j k n : ℕ} {g : Binary} {a b : Expression} {x : Pair} → evaluated w a ≡ value x → Blame w b n k → Blame w (two j g a b) n k

-- ---- the refusals of a list
pub data Refusal (v steps : ℕ) (w : Rounding) (s : List ℕ) : ℕ → ℕ → Type 0 where
  -- 10, 6, 7, 2, 8, 9 at a step, or 11 at the end
  reading : {n k : ℕ} → Ending v steps s (refusal n k) → Refusal v steps w s n k
  -- only then 5 or 4, at the earliest step that has one of them
  evaluating : {n k : ℕ} {t : Expression} → Ending v steps s (value t) → Blame w t n k → Refusal v steps w s n k

-- ---- the earliest step whose value, in the way in which it is wanted, is refused decides; else the last step's value is the answer
unfoldable pub earliest : List Wanted → Located Pair → Located Pair
earliest [] last = last
earliest (x ∷ xs) last = after (evaluated x.way x.expression) λ p. earliest xs last
