-- What was read is whole blocks, one in each turn, and the tally is theirs.
use Rattle.std.proofs.Common.{Ok}
use Rattle.day.specs.Tally.{tallied}
use Rattle.report.proofs.Reading.{Read}
use Rattle.report.proofs.day_of.Given as goal

abbrev pub invariant-loop : goal.invariant-loop
invariant-loop g l = Read l.counter (g.R.Source.remaining l.fn.from) (g.R.Source.remaining l.from) (tallied (Ok l.tally))
