-- How many bytes are read, in one read and in several.
use Rattle.std.proofs.Common.{ℕ, ◌+◌, ◌≤◌, List, length, Option, None, Some, ap, arith, length-append}
use Rattle.std.specs.Io.KnownBytes.{Consumes}
use Rattle.input.specs.Faults.{ReadsAtLeast, HasAtLeast}

pub none_read : (r : Option (List ℕ)) → ReadsAtLeast 0 r r
none_read None = tt
none_read (Some x) = omega arith

pub bytes_read : (r r' : Option (List ℕ)) (n : ℕ) (s : List ℕ) → Consumes r r' s → n ≤ length s → ReadsAtLeast n r r'
bytes_read None r' n s c h = tt
bytes_read (Some x) None n s c h = absurd c
bytes_read (Some x) (Some y) n s c h = omega (arith, h, simp length-append at (ap length c))

pub more_read : (r r' r'' : Option (List ℕ)) (m n k : ℕ) → ReadsAtLeast m r r' → ReadsAtLeast n r' r'' → k ≤ m + n → ReadsAtLeast k r r''
more_read None r' r'' m n k a b h = tt
more_read (Some x) None r'' m n k a b h = absurd a
more_read (Some x) (Some y) None m n k a b h = absurd b
more_read (Some x) (Some y) (Some z) m n k a b h = omega arith

-- what was read was there
pub read_there : (r r' : Option (List ℕ)) (m n : ℕ) → ReadsAtLeast m r r' → n ≤ m → HasAtLeast n r
read_there None r' m n a h = tt
read_there (Some x) None m n a h = absurd a
read_there (Some x) (Some y) m n a h = omega arith
