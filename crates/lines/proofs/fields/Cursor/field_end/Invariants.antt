-- The invariant of both loops: the field ends where it ends from the start on.
use Rattle.lines.specs.Cut.{ends_field, field_end}
use Rattle.std.proofs.Common.{◌≡◌, false, ◌-◌, ◌≤◌, ◌<◌, length, get_or}
use Rattle.lines.proofs.fields.Cursor.field_end.Given as goal

abbrev pub invariant-loop : goal.invariant-loop
invariant-loop l = (l.at < length l.self.s.now) × (l.self.at ≤ l.at) × (field_end l.self.s.now l.at ≡ field_end l.self.s.now l.self.at) × (ends_field (get_or l.self.s.now l.at 0) ≡ false)

abbrev pub decreases-loop : goal.decreases-loop
decreases-loop l = length l.self.s.now - l.at

abbrev pub invariant-scan : goal.invariant-scan
invariant-scan l = (l.at < length l.self.s.now) × (l.self.at ≤ l.at) × (field_end l.self.s.now l.at ≡ field_end l.self.s.now l.self.at)

abbrev pub decreases-scan : goal.decreases-scan
decreases-scan l = length l.self.s.now - l.at
