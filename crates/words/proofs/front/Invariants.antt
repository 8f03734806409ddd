-- The bytes so far are those of the front.
use Rattle.std.proofs.Common.{◌≡◌, ℕ, ◌<◌, length, get_or}
use Rattle.words.proofs.front.Given as goal

abbrev pub invariant-loop-k : goal.invariant-loop-k
invariant-loop-k g l = record { long : length l.bytes ≡ g.row.N; same : (i : ℕ) → i < l.k → get_or l.bytes i 0 ≡ get_or l.s i 0 }
