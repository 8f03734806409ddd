-- The bytes of the steps that were passed.
use Rattle.std.proofs.Common.{◌≡◌, take}
use Rattle.series.specs.Steps.{bytes}
use Rattle.series.proofs.coding.written.Given as goal

abbrev pub invariant-loop-step : goal.invariant-loop-step
invariant-loop-step l = l.bytes.items ≡ bytes (take l.step-index l.steps.items)
