-- The bytes that are put, and what is left.
use Rattle.std.proofs.Common.{length}
use Rattle.burnin.specs.Lists.{Filling}
use Rattle.burnin.proofs.runs.expanded.Given as goal

abbrev pub invariant-loop-code : goal.invariant-loop-code
invariant-loop-code l = Filling l.constants l.list.items l.bytes.items l.rest

abbrev pub decreases-loop-code : goal.decreases-loop-code
decreases-loop-code l = length l.rest
