-- One step fewer at each call.
use Rattle.std.proofs.Common.{length}
use Rattle.series.proofs.search.Stage.+raise.Given as goal

abbrev pub decreases-raise : goal.decreases-raise
decreases-raise l = length l.end.now
