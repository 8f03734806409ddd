-- Bytes from `,` to `]`, as all of a pair's are: proofs/Clean.antt.
use Rattle.std.specs.Prelude.{ℕ, ◌≤◌, List, [], ◌∷◌}

abbrev pub Clean : List ℕ → Type 0
Clean [] = Unit {0}
Clean (b ∷ t) = (44 ≤ b) × (b ≤ 93) × Clean t
