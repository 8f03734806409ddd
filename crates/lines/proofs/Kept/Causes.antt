-- Laws that no proof cites any more, and that stand: what a line is answered, where a second field that is no letter is one of the operations.
use Rattle.std.specs.Prelude.{◌≡◌, refl, Bool, true, false, cond, List, [], ◌∷◌, ◌↔◌, ℕ, ◌≤◌, ◌<◌, eqb, ltb, length, Option, Some, None, Result}
use Rattle.std.proofs.Common.{sym, ap, ◌∙◌, arith, lt-ltb, le-ltb, ltb-true, ltb-false, eq-eqb, ne_eqb, eqb-true}
use Rattle.std.proofs.lemmas.Bool.{eqb-false}
use Rattle.directed.specs.declared.Binary.{Binary}
use Rattle.directed.specs.declared.Interval.{Interval}
use Rattle.directed.specs.declared.Cause.{Cause}
use Rattle.directed.specs.declared.Rounding.{Rounding}
use Rattle.directed.specs.Exact.{Exact, sort}
use Rattle.directed.specs.Operations as operations
use Rattle.directed.specs.Thousandths.{Pair, exact, beyond_range, rounded}
use Rattle.directed_laws.specs.Fraction.{≈-sym}
use Rattle.directed_laws.specs.Rounding.{rounded-cong}
use Rattle.directed_laws.specs.Solutions as verdicts
use Rattle.directed_laws.specs.Solutions.{Means, solutions_mean, unsolvable_iff, several_iff, only_iff}
use Rattle.directed.specs.Answer.{Outcome, refusal, outcome, built, Judgement, sound, cause, stop, unless, within_range, in_range, unjudged_binary}
use Rattle.directed.specs.Answer as answers
use Rattle.directed.specs.Equation.{Unsolvable, Only, Several, unjudged_equation}
use Rattle.lines.specs.declared.Operation.{Operation}
use Rattle.lines.specs.declared.Operation.TheVariants.{Two, Equation}
use Rattle.lines.specs.Fields.{fields}
use Rattle.lines.specs.Cut.{some-field}
use Rattle.lines.specs.Line.{longest, first_field, second_field, operate, by_letters, of_fields, answer}
use Rattle.lines.specs.Rest.{with_pairs}
use Rattle.lines.specs.Output.{unbuilt}
use Rattle.lines.specs.Causes.{Letters, Good, Bad, pairs}
use Rattle.lines.proofs.OutputLaws.{unbuilt-built}
use Rattle.lines.proofs.Causes.{with_good, with_bad, Judged, all_good, one_bad, judged, pairs-many, letters_is}

-- what a letter wants: "then two pairs, or for E the three pairs a, c, b"
abbrev pub known : Option Operation → Bool
known (Some (Two operation)) = true
known (Some Equation) = true
known None = false

abbrev pub wants : Option Operation → ℕ
wants (Some (Two operation)) = 2
wants (Some Equation) = 3
wants None = 0

-- the operation on some pairs: what may stop it, and its result, rounded once; what is refused has any
pub data Asks (rounding : Rounding) : Option Operation → List Pair → Judgement → Pair → Type 0 where
  of_two : (op : Binary) (a b : Pair) → Asks rounding (Some (Two op)) (a ∷ b ∷ []) (stop op (sort (exact b))) (rounded rounding (operations.binary op (exact a) (exact b)))
  of_equation : (a c b : Pair) (x : Exact) → Only (exact a) (exact c) (exact b) x → Asks rounding (Some Equation) (a ∷ c ∷ b ∷ []) sound (rounded rounding x)
  unsolvable : (a c b v : Pair) → Unsolvable (exact a) (exact c) (exact b) → Asks rounding (Some Equation) (a ∷ c ∷ b ∷ []) (cause 16) v
  several_solutions : (a c b v : Pair) → Several (exact a) (exact c) (exact b) → Asks rounding (Some Equation) (a ∷ c ∷ b ∷ []) (cause 17) v

-- what a line is answered: one constructor for each cause, in the order, with what makes it and the absence of those before it; and the value
pub data Answered (l : List ℕ) : Outcome Pair → Type 0 where
  too_long : longest < length l → Answered l (refusal 12)
  few_fields : {f : List ℕ} → length l ≤ longest → fields l ≡ f ∷ [] → Answered l (refusal 12)
  first_letter : {f g : List ℕ} {ps : List (List ℕ)} → length l ≤ longest → fields l ≡ f ∷ g ∷ ps → first_field f ≡ None → Answered l (refusal 6)
  second_letter : {r : Rounding} {ps : List (List ℕ)} → Letters l r None ps → Answered l (refusal 6)
  wrong_count : {r : Rounding} {o : Option Operation} {ps : List (List ℕ)} → Letters l r o ps → known o ≡ true → (length ps ≡ wants o → ⊥) → Answered l (refusal 12)
  pair_refused : {r : Rounding} {o : Option Operation} {ps : List (List ℕ)} {k : ℕ} → Letters l r o ps → known o ≡ true → length ps ≡ wants o → Bad ps k → Answered l (refusal k)
  -- 5, or 16 or 17
  stopped : {r : Rounding} {o : Option Operation} {ps : List (List ℕ)} {n : ℕ} {v : Pair} → Letters l r o ps → Good ps → Asks r o (pairs ps) (cause n) v → Answered l (refusal n)
  result_beyond : {r : Rounding} {o : Option Operation} {ps : List (List ℕ)} {v : Pair} → Letters l r o ps → Good ps → Asks r o (pairs ps) sound v → beyond_range v ≡ true
      → Answered l (refusal 4)
  value : {r : Rounding} {o : Option Operation} {ps : List (List ℕ)} {v : Pair} → Letters l r o ps → Good ps → Asks r o (pairs ps) sound v → beyond_range v ≡ false
      → Answered l (answers.value v)

unfoldable pub computed : Rounding → Option Operation → List Pair → Outcome Pair
computed r (Some (Two op)) [] = refusal 12
computed r (Some (Two op)) (a ∷ []) = refusal 12
computed r (Some (Two op)) (a ∷ b ∷ []) = unjudged_binary r op a b
computed r (Some (Two op)) (a ∷ b ∷ c ∷ qs) = refusal 12
computed r (Some Equation) [] = refusal 12
computed r (Some Equation) (a ∷ []) = refusal 12
computed r (Some Equation) (a ∷ c ∷ []) = refusal 12
computed r (Some Equation) (a ∷ c ∷ b ∷ []) = unjudged_equation r a c b
computed r (Some Equation) (a ∷ c ∷ b ∷ d ∷ qs) = refusal 12
computed r None qs = refusal 12

pub operate-is : (r : Rounding) (o : Option Operation) (ps : List (List ℕ)) → known o ≡ true → operate o r ps ≡ cond (eqb (length ps) (wants o)) (with_pairs ps (computed r o)) (refusal 12)
unfolding operate with_pairs computed
operate-is r (Some (Two op)) [] k = refl
operate-is r (Some (Two op)) (p ∷ []) k = refl
operate-is r (Some (Two op)) (p ∷ q ∷ []) k = refl
operate-is r (Some (Two op)) (p ∷ q ∷ s ∷ ps) k = rw (ne_eqb (length (p ∷ q ∷ s ∷ ps)) 2 (omega arith))
operate-is r (Some Equation) [] k = refl
operate-is r (Some Equation) (p ∷ []) k = refl
operate-is r (Some Equation) (p ∷ q ∷ []) k = refl
operate-is r (Some Equation) (p ∷ q ∷ s ∷ []) k = refl
operate-is r (Some Equation) (p ∷ q ∷ s ∷ t ∷ ps) k = rw (ne_eqb (length (p ∷ q ∷ s ∷ t ∷ ps)) 3 (omega arith))
operate-is r None ps k = let z : ◌≡◌ {A = ℕ} 0 1 = cc in absurd (omega arith)

pub asks_is : {r : Rounding} {o : Option Operation} {qs : List Pair} {j : Judgement} {v : Pair} → Asks r o qs j v → computed r o qs ≡ unless j (in_range v)
unfolding computed unjudged_binary unjudged_equation
asks_is (of_two op a b) = refl
asks_is {r} (of_equation a c b x h) = let k = (only_iff a c b x).0 h in rw k.0 (ap in_range (rounded-cong r _ _ (λ i. ≈-sym (k.1 i))))
asks_is (unsolvable a c b v h) = rw ((unsolvable_iff a c b).1 h) refl
asks_is (several_solutions a c b v h) = rw ((several_iff a c b).1 h) refl

pub asks_many : {r : Rounding} {o : Option Operation} {qs : List Pair} {j : Judgement} {v : Pair} → Asks r o qs j v → (known o ≡ true) × (length qs ≡ wants o)
asks_many (of_two op a b) = (refl, refl)
asks_many (of_equation a c b x h) = (refl, refl)
asks_many (unsolvable a c b v h) = (refl, refl)
asks_many (several_solutions a c b v h) = (refl, refl)

pub data Asked (r : Rounding) (o : Option Operation) (qs : List Pair) : Type 0 where
  asked : (j : Judgement) (v : Pair) → Asks r o qs j v → Asked r o qs

pub asks_equation : {r : Rounding} (a c b : Pair) {p : Pair} {j : Judgement} → Means a c b p j → Asked r (Some Equation) (a ∷ c ∷ b ∷ [])
asks_equation a c b (verdicts.only s e h) = asked _ _ (of_equation a c b _ h)
asks_equation a c b (verdicts.none h) = asked _ a (unsolvable a c b a h)
asks_equation a c b (verdicts.several h) = asked _ a (several_solutions a c b a h)

pub asks : (r : Rounding) (o : Option Operation) (qs : List Pair) → known o ≡ true → length qs ≡ wants o → Asked r o qs
asks r (Some (Two op)) (a ∷ b ∷ []) k h = asked _ _ (of_two op a b)
asks r (Some (Two op)) [] k h = absurd (omega arith)
asks r (Some (Two op)) (a ∷ []) k h = absurd (omega arith)
asks r (Some (Two op)) (a ∷ b ∷ c ∷ qs) k h = absurd (omega arith)
asks r (Some Equation) (a ∷ c ∷ b ∷ []) k h = asks_equation a c b (solutions_mean a c b)
asks r (Some Equation) [] k h = absurd (omega arith)
asks r (Some Equation) (a ∷ []) k h = absurd (omega arith)
asks r (Some Equation) (a ∷ c ∷ []) k h = absurd (omega arith)
asks r (Some Equation) (a ∷ c ∷ b ∷ d ∷ qs) k h = absurd (omega arith)
asks r None qs k h = let z : ◌≡◌ {A = ℕ} 0 1 = cc in absurd (omega arith)

-- ---- each is what the line is answered

module _ {l : List ℕ} where
  pub count_is : {r : Rounding} {o : Option Operation} {ps : List (List ℕ)} → Letters l r o ps → known o ≡ true → length ps ≡ wants o → answer l ≡ with_pairs ps (computed r o)
  count_is {r} {o} {ps} t k h = letters_is t ∙ operate-is r o ps k ∙ rw (eq-eqb (length ps) (wants o) h)

  pub asks_answer : {r : Rounding} {o : Option Operation} {ps : List (List ℕ)} {j : Judgement} {v : Pair} → Letters l r o ps → Good ps → Asks r o (pairs ps) j v → answer l ≡ unless j (in_range v)
  asks_answer {r} {o} {ps} t g a = let m = asks_many a in count_is t m.0 (sym (pairs-many ps) ∙ m.1) ∙ with_good g (computed r o) ∙ asks_is a

  pub answered_is : {x : Outcome Pair} → Answered l x → answer l ≡ x
  unfolding answer of_fields by_letters operate within_range
  answered_is (too_long h) = rw (lt-ltb longest (length l) h)
  answered_is (few_fields h c) = rw (le-ltb longest (length l) h, c)
  answered_is (first_letter h c n) = rw (le-ltb longest (length l) h, c, n)
  answered_is (second_letter t) = letters_is t
  answered_is (wrong_count {r} {o} {ps} t k n) = letters_is t ∙ operate-is r o ps k ∙ rw (ne_eqb (length ps) (wants o) n)
  answered_is (pair_refused {r} {o} t k h b) = count_is t k h ∙ with_bad b (computed r o)
  answered_is (stopped t g a) = asks_answer t g a
  answered_is (result_beyond t g a b) = asks_answer t g a ∙ rw b
  answered_is (value t g a b) = asks_answer t g a ∙ rw b

-- ---- and one of them holds

module _ (l : List ℕ) where
  pub of_result : {r : Rounding} {o : Option Operation} {ps : List (List ℕ)} → Letters l r o ps → Good ps → Asked r o (pairs ps) → (x : Outcome Pair) × Answered l x
  of_result t g (asked (cause n) v a) = (refusal n, stopped t g a)
  of_result t g (asked sound v a) = go (beyond_range v) refl
    where
      go : (b : Bool) → beyond_range v ≡ b → (x : Outcome Pair) × Answered l x
      go true b = (refusal 4, result_beyond t g a b)
      go false b = (answers.value v, value t g a b)

  pub of_letters : {r : Rounding} {o : Option Operation} {ps : List (List ℕ)} → Letters l r o ps → known o ≡ true → (x : Outcome Pair) × Answered l x
  of_letters {r} {o} {ps} t k = go (eqb (length ps) (wants o)) refl (judged ps)
    where
      go : (b : Bool) → eqb (length ps) (wants o) ≡ b → Judged ps → (x : Outcome Pair) × Answered l x
      go false e j = (refusal 12, wrong_count t k (eqb-false (length ps) (wants o) e))
      go true e (one_bad {k = n} b) = (refusal n, pair_refused t k (eqb-true (length ps) (wants o) e) b)
      go true e (all_good g) = of_result t g (asks r o (pairs ps) k (pairs-many ps ∙ eqb-true (length ps) (wants o) e))

  pub of_second : {r : Rounding} {ps : List (List ℕ)} (o : Option Operation) → Letters l r o ps → (x : Outcome Pair) × Answered l x
  of_second (Some (Two op)) t = of_letters t refl
  of_second (Some Equation) t = of_letters t refl
  of_second None t = (refusal 6, second_letter t)

  pub of_first : (f : List ℕ) (g : List ℕ) (ps : List (List ℕ)) → length l ≤ longest → fields l ≡ f ∷ g ∷ ps → (x : Outcome Pair) × Answered l x
  of_first f g ps h c = go (first_field f) refl
    where
      go : (o : Option Rounding) → first_field f ≡ o → (x : Outcome Pair) × Answered l x
      go None e = (refusal 6, first_letter h c e)
      go (Some r) e = of_second (second_field g) (record { first = f; second = g; within = h; cut = c; rounds = e; operates = refl })

  some : (x : Outcome Pair) × Answered l x
  some = go (ltb longest (length l)) refl
    where
      cuts : (fs : List (List ℕ)) → fields l ≡ fs → length l ≤ longest → (x : Outcome Pair) × Answered l x
      cuts [] e h = absurd (some-field (λ fs. fs ≡ [] → ⊥) (λ f fs z. let y : ◌≡◌ {A = ℕ} 0 1 = cc in omega arith) l e)
      cuts (f ∷ []) e h = (refusal 12, few_fields h e)
      cuts (f ∷ g ∷ ps) e h = of_first f g ps h e

      go : (b : Bool) → ltb longest (length l) ≡ b → (x : Outcome Pair) × Answered l x
      go true e = (refusal 12, too_long (ltb-true longest (length l) e))
      go false e = cuts (fields l) refl (ltb-false longest (length l) e)

  -- what a line is answered is what holds of it first
  pub answer-exactly : (x : Outcome Pair) → (answer l ≡ x) ↔ Answered l x
  answer-exactly x = ((λ e. rw (sym (answered_is some.1) ∙ e) at some.1), answered_is)

  -- and so of what the function `answer` returns
  pub returned_exactly : (o : Result Interval Cause) → outcome o ≡ built (answer l) → Answered l (unbuilt (outcome o))
  returned_exactly o e = (answer-exactly (unbuilt (outcome o))).0 (sym (ap unbuilt e ∙ unbuilt-built (answer l)))
