-- Known, enough values, and one can still be reached.
use Rattle.series.specs.Steps.{Known, constant, code}
use Rattle.series.specs.Nearest.{tested}
use Rattle.series.proofs.search.Stage.fits.Goals as goal
use Rattle.series.proofs.search.Stage.fits.Goals.{else-self-step-via-then-self-step+else-step-lt4, else-self-step-via-else-self-step}

pub returns-then-n-self : goal.returns-then-n-self
returns-then-n-self c =
    let s = c.args.self in
    let u : Known s.constants.count c.args.step = elim c.else-self-step.branch [ else-self-step-via-then-self-step+else-step-lt4 w ↦ code w.if-step-lt4.false c.requires | else-self-step-via-else-self-step w ↦ constant w.if-self-step.false ] in
    tested s.constants.count s.waiting c.args.left c.args.step c.taken-n.result c.taken-n.ensures u c.if-n-self.true
