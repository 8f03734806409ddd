-- The digits before the last seven are fewer.
use Rattle.std.proofs.Common.{length}
use Rattle.decimal.proofs.+fill_long.Given as goal

abbrev pub decreases-fill_long : goal.decreases-fill_long
decreases-fill_long l = length l.figures.now
