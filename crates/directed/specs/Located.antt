-- An answer where a refusal also has a place: 01, "Table of causes", "number, step", and "count of steps read"; 02, Q-4, "in a report with the place".
use Rattle.std.specs.Prelude.{ℕ, Result, Ok, Err}
use Rattle.directed.specs.declared.Refusal.{Refusal}
use Rattle.directed.specs.Answer as answers
use Rattle.directed.specs.Answer.{number, Outcome}

-- a value, or a number and its place
pub data Located (A : Type 0) : Type 0 where
  value : A → Located A
  refusal : ℕ → ℕ → Located A

-- an answer in the paper's terms
abbrev pub located : {A : Type 0} → Result A (Refusal ℕ) → Located A
located (Ok a) = value a
located (Err r) = refusal (number r.cause) r.place

-- an outcome at a place
abbrev pub at : {A : Type 0} → ℕ → Outcome A → Located A
at k (answers.value a) = value a
at k (answers.refusal n) = refusal n k

-- what is refused before decides
abbrev pub after : {A B : Type 0} → Located A → (A → Located B) → Located B
after (value a) next = next a
after (refusal n k) next = refusal n k
