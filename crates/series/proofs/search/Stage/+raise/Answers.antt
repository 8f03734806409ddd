-- The first step that can be taken, and the lowest behind it.
use Rattle.std.proofs.Common.{ap}
use Rattle.series.specs.Nearest.{none_risen, raised}
use Rattle.series.proofs.search.Stage.+raise.Goals as goal

pub returns-in_default-find : goal.returns-in_default-find
returns-in_default-find t c = let s = c.args.self in
    none_risen s.constants.count s.waiting c.args.from _ _ s.constants.few c.in-Some.ensures.cases.1 c.in_default-find.ensures

pub returns : goal.returns
returns t c = let s = c.args.self in
    raised s.constants.count s.waiting c.args.from _ _ c.in-Some-find.step c.behind.result.waiting c.raise.new.end c.raise.result s.constants.some c.in-Some.ensures.cases.1 c.in-Some-find.ensures c.behind.ensures.waiting
    (rw (ap (λ k. k.count) c.behind.ensures.constants) at c.raise.ensures)
