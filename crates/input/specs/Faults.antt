-- What is said of an error: what was read before it, and when it may come. r are the bytes of a reader, r' those that are left.
use Rattle.std.specs.Prelude.{ℕ, ◌+◌, ◌<◌, ◌≤◌, List, length, take, Option, None, Some, IfSome, ⊤}
use Rattle.std.specs.Io.KnownBytes.{Consumes}

-- some bytes were read, fewer than the buffer has room for, and stand at its front
abbrev pub HasReadFront : Option (List ℕ) → Option (List ℕ) → List ℕ → Type 0
HasReadFront r r' buffer = (n : ℕ) × (n < length buffer) × Consumes r r' (take n buffer)

-- n bytes at least were read, where that is known
abbrev pub ReadsAtLeast : ℕ → Option (List ℕ) → Option (List ℕ) → Type 0
ReadsAtLeast n None r' = ⊤
ReadsAtLeast n (Some xs) None = ⊥
ReadsAtLeast n (Some xs) (Some ys) = n + length ys ≤ length xs

-- n bytes at least are to be read, where that is known: a loop that reads a byte in each of its n turns has no more turns
abbrev pub HasAtLeast : ℕ → Option (List ℕ) → Type 0
HasAtLeast n r = IfSome r (λ s. n ≤ length s)
