-- Demand 2: "An expression's value is that of its steps, each so rounded in the way it is wanted": said without rounding.
use Rattle.std.specs.Prelude.{◌≡◌, false, List, [], ◌∷◌, ℕ}
use Rattle.directed.specs.declared.Rounding.{Rounding}
use Rattle.directed.specs.declared.Unary.{Unary}
use Rattle.directed.specs.declared.Binary.{Binary}
use Rattle.directed.specs.Exact.{sort}
use Rattle.directed.specs.Operations as operations
use Rattle.directed.specs.Thousandths.{Pair, exact, beyond_range, under}
use Rattle.directed.specs.Tightest.{Tightest}
use Rattle.directed.specs.Answer.{sound, stop}
use Rattle.lists.specs.Lists.{Expression, constant, one, two}
use Rattle.lists.specs.Ways.{Wanted}

-- p is the value of an expression whose last step is wanted in the way w: of each step, in the way it is wanted, the tightest pair around, or the
-- widest within, the exact result of the values that it takes
pub data Valued : Rounding → Expression → Pair → Type 0 where
  of_constant : {w : Rounding} {k : ℕ} {p : Pair} → Valued w (constant k p) p
  of_one : {w : Rounding} {k : ℕ} {f : Unary} {a : Expression} {x p : Pair} → Valued (under f w) a x
      → Tightest w (operations.unary f (exact x)) p → beyond_range p ≡ false → Valued w (one k f a) p
  of_two : {w : Rounding} {k : ℕ} {g : Binary} {a b : Expression} {x y p : Pair} → Valued w a x → Valued w b y → stop g (sort (exact y)) ≡ sound
      → Tightest w (operations.binary g (exact x) (exact y)) p → beyond_range p ≡ false → Valued w (two k g a b) p

-- ---- and so of every step of the list, in the way in which it is wanted
abbrev pub AllValued : List Wanted → Type 0
AllValued [] = Unit {0}
AllValued (x ∷ xs) = ((p : Pair) × Valued x.way x.expression p) × AllValued xs
