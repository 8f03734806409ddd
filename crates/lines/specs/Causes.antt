-- "Each number comes exactly if its cause holds and no cause earlier in the order does", for lines: "length (12), fewer than two fields (12), first
-- field (6), second field (6), count of the other fields (12), then each pair from the left by 1, 2, then 5, 4." 02, Q-7: for the equation 16 or 17 "in
-- the place of 5", said over all pairs of fractions.
use Rattle.std.specs.Prelude.{◌≡◌, true, false, List, [], ◌∷◌, ℕ, ◌≤◌, ◌<◌, length, Option, Some, None}
use Rattle.directed.specs.declared.Rounding.{Rounding}
use Rattle.directed.specs.declared.Binary.{Binary}
use Rattle.directed.specs.Exact.{Exact, sort}
use Rattle.directed.specs.Operations as operations
use Rattle.directed.specs.Thousandths.{Pair, exact, beyond_range, rounded}
use Rattle.directed.specs.Answer.{Outcome, refusal, Judgement, sound, cause, stop}
use Rattle.directed.specs.Answer as answers
use Rattle.directed.specs.Equation.{Unsolvable, Only, Several}
use Rattle.text.specs.Form.{form, value_of}
use Rattle.lines.specs.declared.Operation.{Operation}
use Rattle.lines.specs.declared.Operation.TheVariants.{Two, Equation}
use Rattle.lines.specs.Fields.{fields}
use Rattle.lines.specs.Line.{longest, first_field, second_field}

-- what a letter wants: "then two pairs, or for E the three pairs a, c, b"
abbrev pub wants : Operation → ℕ
wants (Two operation) = 2
wants Equation = 3

-- the fields of a line that is not too long: two letters' fields, the first of which says how to round, and the others
pub record Letters (l : List ℕ) (rounding : Rounding) (operation : Option Operation) (ps : List (List ℕ)) : Type 0 where
  pub first : List ℕ
  pub second : List ℕ
  pub within : length l ≤ longest
  pub cut : fields l ≡ first ∷ second ∷ ps
  pub rounds : first_field first ≡ Some rounding
  pub operates : second_field second ≡ operation

-- all fields are pairs in form and in range, or the first that is not has the cause
pub data Good : List (List ℕ) → Type 0 where
  none : Good []
  one : {p : List ℕ} {ps : List (List ℕ)} → form p ≡ true → beyond_range (value_of p) ≡ false → Good ps → Good (p ∷ ps)

pub data Bad : List (List ℕ) → ℕ → Type 0 where
  malformed : {p : List ℕ} {ps : List (List ℕ)} → form p ≡ false → Bad (p ∷ ps) 1
  beyond : {p : List ℕ} {ps : List (List ℕ)} → form p ≡ true → beyond_range (value_of p) ≡ true → Bad (p ∷ ps) 2
  later : {p : List ℕ} {ps : List (List ℕ)} {k : ℕ} → form p ≡ true → beyond_range (value_of p) ≡ false → Bad ps k → Bad (p ∷ ps) k

abbrev pub pairs : List (List ℕ) → List Pair
pairs [] = []
pairs (p ∷ ps) = value_of p ∷ pairs ps

-- the operation on some pairs: what may stop it, and its result, rounded once; what is refused has any
pub data Asks (rounding : Rounding) : Operation → List Pair → Judgement → Pair → Type 0 where
  of_two : (op : Binary) (a b : Pair) → Asks rounding (Two op) (a ∷ b ∷ []) (stop op (sort (exact b))) (rounded rounding (operations.binary op (exact a) (exact b)))
  of_equation : (a c b : Pair) (x : Exact) → Only (exact a) (exact c) (exact b) x → Asks rounding Equation (a ∷ c ∷ b ∷ []) sound (rounded rounding x)
  unsolvable : (a c b v : Pair) → Unsolvable (exact a) (exact c) (exact b) → Asks rounding Equation (a ∷ c ∷ b ∷ []) (cause 16) v
  several_solutions : (a c b v : Pair) → Several (exact a) (exact c) (exact b) → Asks rounding Equation (a ∷ c ∷ b ∷ []) (cause 17) v

-- what a line is answered: one constructor for each cause, in the order, with what makes it and the absence of those before it; and the value
pub data Answered (l : List ℕ) : Outcome Pair → Type 0 where
  too_long : longest < length l → Answered l (refusal 12)
  few_fields : {f : List ℕ} → length l ≤ longest → fields l ≡ f ∷ [] → Answered l (refusal 12)
  first_letter : {f g : List ℕ} {ps : List (List ℕ)} → length l ≤ longest → fields l ≡ f ∷ g ∷ ps → first_field f ≡ None → Answered l (refusal 6)
  second_letter : {r : Rounding} {ps : List (List ℕ)} → Letters l r None ps → Answered l (refusal 6)
  wrong_count : {r : Rounding} {o : Operation} {ps : List (List ℕ)} → Letters l r (Some o) ps → (length ps ≡ wants o → ⊥) → Answered l (refusal 12)
  pair_refused : {r : Rounding} {o : Operation} {ps : List (List ℕ)} {k : ℕ} → Letters l r (Some o) ps → length ps ≡ wants o → Bad ps k → Answered l (refusal k)
  -- 5, or 16 or 17
  stopped : {r : Rounding} {o : Operation} {ps : List (List ℕ)} {n : ℕ} {v : Pair} → Letters l r (Some o) ps → Good ps → Asks r o (pairs ps) (cause n) v → Answered l (refusal n)
  result_beyond : {r : Rounding} {o : Operation} {ps : List (List ℕ)} {v : Pair} → Letters l r (Some o) ps → Good ps → Asks r o (pairs ps) sound v → beyond_range v ≡ true
      → Answered l (refusal 4)
  value : {r : Rounding} {o : Operation} {ps : List (List ℕ)} {v : Pair} → Letters l r (Some o) ps → Good ps → Asks r o (pairs ps) sound v → beyond_range v ≡ false
      → Answered l (answers.value v)
