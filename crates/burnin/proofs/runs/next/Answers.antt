-- What the call leaves.
use Rattle.std.proofs.Common.{arith, ◌∙◌}
use Rattle.series.specs.Returned.{next_handed}
use Rattle.burnin.proofs.runs.next.Goals as goal

pub returns : goal.returns
returns c = c.list_in.ensures ∙ next_handed c.args.count c.requires _ (omega arith) c.args.list.now c.next-answer.ensures
