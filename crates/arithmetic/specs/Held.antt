-- Ends whose sizes are bounded by their type, read.
use Rattle.std.specs.Prelude.{ℕ, ℤ}
use Rattle.directed.specs.declared.Ends.{Ends}
use Rattle.directed.specs.Thousandths.{Pair, pair}
use Rattle.arithmetic.specs.declared.ends.Within.{Within}

abbrev pub values : {n : ℕ} → Ends (Within n) → Ends ℤ
values e = record { lower = e.lower.value; upper = e.upper.value }

abbrev pub pair_held : {n : ℕ} → Ends (Within n) → Pair
pair_held e = pair e.lower.value e.upper.value
