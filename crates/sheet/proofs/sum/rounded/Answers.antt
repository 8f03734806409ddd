-- Each end by its own parts.
use Rattle.std.proofs.Common.{ℤ, ap₂, ◌∙◌}
use Rattle.directed.specs.Answer.{built, in_range}
use Rattle.directed.specs.Thousandths.{pair}
use Rattle.arithmetic.specs.ProductLaws.{thousandths}
use Rattle.sheet.proofs.Opened.{nearest_end}
use Rattle.sheet.proofs.sum.rounded.Goals as goal

pub returns : goal.returns
unfolding thousandths
returns c =
    let ends = c.nearest_thousandth-nearest.ensures in
    c.within_range.ensures
    ∙ ap₂ (λ (l u : ℤ). built (in_range (pair l u)))
    (nearest_end _ _ _ c.requires.lower ends.lower)
    (nearest_end _ _ _ c.requires.upper ends.upper)
