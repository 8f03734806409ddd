-- A refusal's line is found room for.
use Rattle.std.proofs.Common.{arith}
use Rattle.decimal.specs.PlaceLaws.{placed_fitting}
use Rattle.day.specs.File.{line}
use Rattle.text.specs.Refused.{refusal_line}
use Rattle.day.proofs.output.fill.Goals as goal

pub returns-in-Err : goal.returns-in-Err
unfolding line refusal_line
returns-in-Err c = let r = c.put_refusal.ensures in rw c.in-Err.is (placed_fitting r.placed (omega (arith, r.bounded)))
