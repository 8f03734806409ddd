-- The invariant: what is answered from here on is what is answered from the first pair on.
use Rattle.lines.specs.Rest.{Reading}
use Rattle.lines.proofs.fields.Cursor.pairs.Given as goal
use Rattle.std.proofs.Common.{◌≡◌, ◌≤◌, length}

abbrev pub invariant-loop-i : goal.invariant-loop-i
invariant-loop-i l = (l.here.s.now ≡ l.self.s.now) × (l.here.start ≡ l.self.start) × (l.self.start ≤ l.here.at) × (length l.read ≡ 3)
    × Reading l.self.s.now l.self.at l.operation l.rounding l.read l.i l.here.at
