-- The digits before the last two are fewer.
use Rattle.std.proofs.Common.{length}
use Rattle.decimal.proofs.+fill_digits.Given as goal

abbrev pub decreases-fill_digits : goal.decreases-fill_digits
decreases-fill_digits l = length l.figures.now
