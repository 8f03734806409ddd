-- What the first call leaves.
use Rattle.std.proofs.Common.{arith, ◌∙◌}
use Rattle.series.specs.Returned.{first_handed}
use Rattle.burnin.proofs.runs.first.Goals as goal

pub returns : goal.returns
returns c = c.list_in.ensures ∙ first_handed c.args.count c.requires _ (omega arith) c.first-answer.ensures
