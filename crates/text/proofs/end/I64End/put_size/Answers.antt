-- The whole part, and the point with three digits behind it.
use Rattle.decimal.specs.PlaceLaws.{placed_fitting, fitting_then, fitting_as}
use Rattle.integers.specs.Locals.{plain}
use Rattle.std.proofs.Common.{unsigned_abs, ap, ◌∙◌}
use Rattle.text.proofs.Writes.{size_fitting}
use Rattle.text.specs.Text.{size_text}
use Rattle.text.proofs.end.I64End.put_size.Goals as goal

pub returns : goal.returns
returns c = fitting_as (ap size_text (c.unsigned_abs-size.ensures.value ∙ ap unsigned_abs (plain c.ranges.self))) (size_fitting _ c.put_long-point.ensures (fitting_then (placed_fitting c.put_byte-behind.ensures) (placed_fitting c.put_digits.ensures)))
