-- The invariant: the bytes passed are in the buffer, 0 for each byte 10.
use Rattle.lines.specs.Alone.{unmarked}
use Rattle.lines.proofs.answer.Given as goal
use Rattle.std.proofs.Common.{◌≡◌, length, take}

abbrev pub invariant-loop-i : goal.invariant-loop-i
invariant-loop-i l = (length l.buffer ≡ 97) × (take l.i l.buffer ≡ unmarked (take l.i l.line))
