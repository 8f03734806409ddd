-- The steps that were passed, and the bytes behind them.
use Rattle.std.proofs.Common.{◌≡◌, ◌≤◌, length}
use Rattle.series.proofs.Reading.{Passed}
use Rattle.series.proofs.coding.read.Given as goal

abbrev pub invariant-loop-rest : goal.invariant-loop-rest
invariant-loop-rest l = record { few : length l.steps.items ≤ 5; same : l.stage.constants ≡ l.fn.constants; passed : Passed l.fn.constants.count l.list l.steps.items l.stage.waiting l.rest }

abbrev pub decreases-loop-rest : goal.decreases-loop-rest
decreases-loop-rest l = length l.rest
