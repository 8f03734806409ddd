-- Thousandths of an end, with the point.
use Rattle.decimal.specs.PlaceLaws.{placed_fitting, fitting_as}
use Rattle.integers.specs.Locals.{plain}
use Rattle.std.proofs.Common.{unsigned_abs, ap, ◌∙◌}
use Rattle.text.specs.Text.{size_text}
use Rattle.text.proofs.end.I32End.put_size.Goals as goal

pub returns : goal.returns
unfolding size_text
returns c = fitting_as (ap size_text (c.unsigned_abs.ensures.value ∙ ap unsigned_abs (plain c.ranges.self))) (placed_fitting c.put_thousandths.ensures)
