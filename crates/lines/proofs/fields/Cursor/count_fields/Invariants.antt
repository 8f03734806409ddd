-- The invariant: the fields so far and those from here on are all.
use Rattle.lines.specs.Cut.{fields_from, line_end}
use Rattle.std.proofs.Common.{◌≡◌, ◌+◌, ◌-◌, ◌≤◌, length}
use Rattle.lines.proofs.fields.Cursor.count_fields.Given as goal

abbrev pub invariant-loop-here : goal.invariant-loop-here
invariant-loop-here l = (l.here.s.now ≡ l.self.s.now) × (l.self.at ≤ l.here.at) × (l.fields ≤ l.here.at)
    × (l.fields + length (fields_from l.self.s.now l.here.at) ≡ length (fields_from l.self.s.now l.self.at)) × (line_end l.self.s.now l.here.at ≡ line_end l.self.s.now l.self.at)

abbrev pub decreases-loop-here : goal.decreases-loop-here
decreases-loop-here l = length l.self.s.now - l.here.at
