-- What is said of an accepted list: "The outward value then contains the exact value of the list ..; the inward value lies in it."
use Rattle.std.specs.Prelude.{◌≡◌, List, [], ℕ}
use Rattle.directed.specs.declared.Rounding.{Rounding}
use Rattle.directed.specs.Thousandths.{Pair, exact}
use Rattle.directed.specs.Tightest.{Toward}
use Rattle.lists.specs.Lists.{value, Expression, read}
use Rattle.lists.specs.ExactValue.{exact_value, Divisible}
use Rattle.lists.specs.Values.{Valued}

-- an accepted list: its expression, the values of its steps, and the side on which its value lies
pub record Accepted (v steps : ℕ) (w : Rounding) (s : List ℕ) (p : Pair) : Type 0 where
  pub expression : Expression
  pub reads : read v steps 0 [] s ≡ value expression
  pub steps_so : Valued w expression p
  pub side : Divisible expression → Toward w (exact_value expression) (exact p)
