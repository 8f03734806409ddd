-- Each end by its own ratio.
use Rattle.std.proofs.Common.{◌∙◌, arith, to_z-of_z}
use Rattle.arithmetic.proofs.Opened.{rounded_ratios}
use Rattle.arithmetic.proofs.quotients.ratios.Goals as goal

pub returns : goal.returns
returns c = c.rounded.ensures ∙ grind (arith, to_z-of_z, rounded_ratios _ _ _ _ _ _ _ _ c.args.rounding c.ratio.ensures.down c.ratio.ensures.up c.ratio-2.ensures.down c.ratio-2.ensures.up)
