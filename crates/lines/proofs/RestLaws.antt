-- Laws of what is answered from a place of a line on.
use Rattle.std.specs.Prelude.{◌≡◌, refl, Bool, true, false, cond, List, [], ◌∷◌, ◌++◌, ℕ, ℤ, ◌+◌, ◌-◌, ◌≤◌, ◌<◌, eqb, ltb, length, map, take, get_or, set, Result, Some}
use Rattle.std.proofs.Common.{sym, ap, ap₂, ◌∙◌, arith, eq-eqb, ne_eqb, length-append, append_assoc, take-suc-set, add-one, eqb-true}
use Rattle.std.proofs.lemmas.Bool.{eqb-false}
use Rattle.std.proofs.lemmas.List.{get_or-take, map-append}
use Rattle.std.proofs.Math.ListN.{get_or-map}
use Rattle.directed.specs.declared.Interval.{Interval}
use Rattle.directed.specs.declared.Cause.{Cause}
use Rattle.directed.specs.declared.Rounding.{Rounding}
use Rattle.directed.specs.Thousandths.{Pair}
use Rattle.directed.specs.Lift.{interval, pair_of, pair_in}
use Rattle.directed.specs.declared.Ends.{Ends}
use Rattle.directed.specs.Answer.{Outcome, value, refusal, outcome, built}
use Rattle.text.specs.declared.Found.{Found}
use Rattle.text.specs.Answer.{read}
use Rattle.lines.specs.declared.Operation.{Operation}
use Rattle.lines.specs.declared.Operation.TheVariants.{Two, Equation}
use Rattle.lines.specs.Line.{longest, with_pair, operate}
use Rattle.lines.specs.Causes.{wants}
use Rattle.lines.specs.Cut.{field_end, field_text, fields_from, line_end, field_first, field_then, field_last, end_then}
use Rattle.lines.specs.Rest.{limited, Answers, counted, applied, with_pairs, computed, onward, Reading}

-- 12 whatever the length
pub limited-12 : {A : Type 0} (n : ℕ) → ◌≡◌ {A = Outcome A} (limited n (refusal 12)) (refusal 12)
unfolding limited
limited-12 {A} n = go (ltb longest n)
  where
    go : (x : Bool) → ◌≡◌ {A = Outcome A} (cond x (refusal 12) (refusal 12)) (refusal 12)
    go true = refl
    go false = refl

pub built-limited : (n : ℕ) (o : Outcome Pair) → built (limited n o) ≡ limited n (built o)
unfolding limited
built-limited n o = go (ltb longest n)
  where
    go : (x : Bool) → built (cond x (refusal 12) o) ≡ cond x (refusal 12) (built o)
    go true = refl
    go false = refl

-- 12 whatever the count
pub counted-12 : (left m : ℕ) → counted 12 left m ≡ 12
unfolding counted
counted-12 left m = go (eqb m left)
  where
    go : (x : Bool) → ◌≡◌ {A = ℕ} (cond x 12 12) 12
    go true = refl
    go false = refl

module _ {s : List ℕ} {start from : ℕ} {o : Outcome Pair} {r : Found (Result Interval Cause)} where
  -- the same, from another place on
  pub answers_as : {from' : ℕ} {o' : Outcome Pair} → line_end s from' ≡ line_end s from → o ≡ o' → Answers s start from' o' r → Answers s start from o r
  answers_as e f a = record {
    end_is = a.end_is ∙ e;
    answer_is = a.answer_is ∙ ap₂ (λ n o. built (limited (n - start) o)) e (sym f);
  }

  module _ {e : ℕ} (is : e ≡ line_end s from) where
    pub answers_12 : (r.next ≡ e) × (outcome r.value ≡ refusal 12) → o ≡ refusal 12 → Answers s start from o r
    answers_12 f q = record { end_is = f.0 ∙ is; answer_is = f.1 ∙ sym (ap built (ap (limited (line_end s from - start)) q ∙ limited-12 (line_end s from - start))) }

    pub answers_limited : {x : Outcome Interval} → (r.next ≡ e) × (outcome r.value ≡ limited (e - start) x) → built o ≡ x → Answers s start from o r
    answers_limited f q = record { end_is = f.0 ∙ is; answer_is = f.1 ∙ ap₂ (λ n y. limited (n - start) y) is (sym q) ∙ sym (built-limited (line_end s from - start) o) }

-- ---- the operation on the fields that are left

pub operate_is : (o : Operation) (r : Rounding) (ps : List (List ℕ)) → operate (Some o) r ps ≡ cond (eqb (length ps) (wants o)) (with_pairs ps (computed r o)) (refusal 12)
unfolding operate with_pairs computed
operate_is (Two op) r [] = refl
operate_is (Two op) r (p ∷ []) = refl
operate_is (Two op) r (p ∷ q ∷ []) = refl
operate_is (Two op) r (p ∷ q ∷ s ∷ ps) = rw (ne_eqb (length (p ∷ q ∷ s ∷ ps)) 2 (omega arith))
operate_is Equation r [] = refl
operate_is Equation r (p ∷ []) = refl
operate_is Equation r (p ∷ q ∷ []) = refl
operate_is Equation r (p ∷ q ∷ s ∷ []) = refl
operate_is Equation r (p ∷ q ∷ s ∷ t ∷ ps) = rw (ne_eqb (length (p ∷ q ∷ s ∷ t ∷ ps)) 3 (omega arith))

with_pair-cong : (o : Outcome Pair) {f g : Pair → Outcome Pair} → ((a : Pair) → f a ≡ g a) → with_pair o f ≡ with_pair o g
with_pair-cong (value a) e = e a
with_pair-cong (refusal k) e = refl

with_pairs-cong : (ps : List (List ℕ)) {f g : List Pair → Outcome Pair} → ((qs : List Pair) → f qs ≡ g qs) → with_pairs ps f ≡ with_pairs ps g
unfolding with_pairs
with_pairs-cong [] e = e []
with_pairs-cong (p ∷ ps) e = with_pair-cong (read p) (λ a. with_pairs-cong ps (λ qs. e (a ∷ qs)))

module _ (o : Operation) (r : Rounding) where
  pub onward-all : (ps : List (List ℕ)) → onward o r [] ps ≡ operate (Some o) r ps
  unfolding onward
  onward-all ps = rw (operate_is o r ps) (ap (λ n. cond (eqb n (wants o)) (with_pairs ps (computed r o)) (refusal 12)) (omega arith))

  module _ (done : List Pair) (p : List ℕ) where
    -- a field that is refused
    pub onward-refused : (k : ℕ) (ps : List (List ℕ)) → length done ≤ wants o → read p ≡ refusal k
        → onward o r done (p ∷ ps) ≡ refusal (counted k (wants o - length done) (length (p ∷ ps)))
    unfolding onward counted with_pairs
    onward-refused k ps h e = go (eqb (length (p ∷ ps)) (wants o - length done)) refl
      where
        go : (x : Bool) → eqb (length (p ∷ ps)) (wants o - length done) ≡ x
            → cond (eqb (length done + length (p ∷ ps)) (wants o)) (with_pair (read p) (λ a. with_pairs ps (λ qs. computed r o (done ++ (a ∷ qs))))) (refusal 12) ≡ refusal (cond x k 12)
        go true q =
            let m = eqb-true (length (p ∷ ps)) (wants o - length done) q in
            rw (eq-eqb (length done + length (p ∷ ps)) (wants o) (omega arith), e)
        go false q =
            let m = eqb-false (length (p ∷ ps)) (wants o - length done) q in
            rw (ne_eqb (length done + length (p ∷ ps)) (wants o) (λ z. m (omega arith)))

    -- too few fields, or one too many
    pub onward-few : (length done + 1 ≡ wants o → ⊥) → onward o r done (p ∷ []) ≡ refusal 12
    unfolding onward
    onward-few n = rw (ne_eqb (length done + length (p ∷ [])) (wants o) n)

    pub onward-many : (ps : List (List ℕ)) → length done ≡ wants o → onward o r done (p ∷ ps) ≡ refusal 12
    unfolding onward
    onward-many ps n = rw (ne_eqb (length done + length (p ∷ ps)) (wants o) (omega arith))

    -- a pair
    module _ (v : Pair) (e : read p ≡ value v) where
      pub onward-last : length done + 1 ≡ wants o → onward o r done (p ∷ []) ≡ computed r o (done ++ (v ∷ []))
      unfolding onward with_pairs
      onward-last n = rw (eq-eqb (length done + length (p ∷ [])) (wants o) n, e)

      pub onward-next : (ps : List (List ℕ)) → onward o r done (p ∷ ps) ≡ onward o r (done ++ (v ∷ [])) ps
      unfolding onward with_pairs
      onward-next ps =
          let n : length done + length (p ∷ ps) ≡ length (done ++ (v ∷ [])) + length ps = simp length-append (omega arith) in
          let t : with_pairs ps (λ qs. computed r o (done ++ (v ∷ qs))) ≡ with_pairs ps (λ qs. computed r o ((done ++ (v ∷ [])) ++ qs)) =
          with_pairs-cong ps (λ qs. ap (computed r o) (sym (append_assoc done (v ∷ []) qs))) in
          rw (e, n, t)

-- the operation on what stands in memory
module _ (r : Rounding) (read : List (Ends ℤ)) (d : Ends ℤ) where
  nth : (n : ℕ) {xs : List Pair} → map pair_in (take n read) ≡ xs → (i : ℕ) → i < n → pair_in (get_or read i d) ≡ get_or xs i (pair_in d)
  nth n e i h = ap pair_in (sym (get_or-take n read i d h)) ∙ sym (get_or-map pair_in (take n read) i d) ∙ ap (λ l. get_or l i (pair_in d)) e

  pub applied-computed : (o : Operation) (qs : List Pair) → length qs ≡ wants o → map pair_in (take (wants o) read) ≡ qs
      → applied o r (pair_in (get_or read 0 d)) (pair_in (get_or read 1 d)) (pair_in (get_or read 2 d)) ≡ computed r o qs
  unfolding applied computed
  applied-computed (Two op) (a ∷ b ∷ []) h e = rw (nth 2 e 0 (omega arith), nth 2 e 1 (omega arith)) refl
  applied-computed Equation (a ∷ c ∷ b ∷ []) h e = rw (nth 3 e 0 (omega arith), nth 3 e 1 (omega arith), nth 3 e 2 (omega arith)) refl
  applied-computed (Two op) [] h e = absurd (omega arith)
  applied-computed (Two op) (a ∷ []) h e = absurd (omega arith)
  applied-computed (Two op) (a ∷ b ∷ c ∷ qs) h e = absurd (omega arith)
  applied-computed Equation [] h e = absurd (omega arith)
  applied-computed Equation (a ∷ []) h e = absurd (omega arith)
  applied-computed Equation (a ∷ c ∷ []) h e = absurd (omega arith)
  applied-computed Equation (a ∷ c ∷ b ∷ d ∷ qs) h e = absurd (omega arith)

-- ---- one turn of the loop over the pairs

pub wants_most : (o : Operation) → wants o ≤ 3
wants_most (Two op) = omega arith
wants_most Equation = omega arith

pub reading_first : (s : List ℕ) (begin : ℕ) (o : Operation) (r : Rounding) (read : List (Ends ℤ)) → Reading s begin o r read 0 begin
reading_first s begin o r read = record { done = []; many = refl; stored = refl; same_end = refl; same = onward-all o r (fields_from s begin) }

module _ {s : List ℕ} {begin : ℕ} {o : Operation} {r : Rounding} {memory : List (Ends ℤ)} {i from : ℕ} (k : Reading s begin o r memory i from) where
  -- a field that is refused
  pub turn_refused : (n : ℕ) → i ≤ wants o → read (field_text s from) ≡ refusal n
      → operate (Some o) r (fields_from s begin) ≡ refusal (counted n (wants o - i) (length (fields_from s from)))
  turn_refused n h e =
      let f = field_first s from in
      sym k.same ∙ ap (onward o r k.done) f ∙ onward-refused o r k.done (field_text s from) n _ (omega (arith, k.many)) e
      ∙ ap₂ (λ m fs. refusal (counted n (wants o - m) (length fs))) k.many (sym f)

  -- as many are read as are wanted, and another is there
  pub turn_many : i ≡ wants o → operate (Some o) r (fields_from s begin) ≡ refusal 12
  turn_many h = sym k.same ∙ ap (onward o r k.done) (field_first s from) ∙ onward-many o r k.done (field_text s from) _ (k.many ∙ h)

  module _ (here : field_end s from < length s) where
    pub turn_few : (get_or s (field_end s from) 0 ≡ 32 → ⊥) → (i + 1 ≡ wants o → ⊥) → operate (Some o) r (fields_from s begin) ≡ refusal 12
    turn_few h n = sym k.same ∙ ap (onward o r k.done) (field_last s from here h) ∙ onward-few o r k.done (field_text s from) (λ q. n (omega (arith, k.many)))

    -- a pair
    module _ (a : Interval) (reads : built (read (field_text s from)) ≡ value a) (e : Ends ℤ) (same_ends : pair_in e ≡ pair_of a) (room : i < length memory) where
      found : (v : Pair) × (read (field_text s from) ≡ value v) × (a ≡ interval v)
      found = go (read (field_text s from)) reads
        where
          go : (o : Outcome Pair) → built o ≡ value a → (v : Pair) × (o ≡ value v) × (a ≡ interval v)
          go (value v) e = (v, refl, cc)
          go (refusal n) e = let z : ◌≡◌ {A = ℕ} 0 1 = cc in absurd (omega arith)

      stored : map pair_in (take (i + 1) (set memory i e)) ≡ k.done ++ (found.0 ∷ [])
      stored = rw (add-one, take-suc-set memory i e room) (map-append pair_in (take i memory) (e ∷ []) ∙ ap₂ (λ xs x. xs ++ (x ∷ [])) k.stored (same_ends ∙ ap pair_of found.2))

      pub turn_last : (d : Ends ℤ) → (get_or s (field_end s from) 0 ≡ 32 → ⊥) → i + 1 ≡ wants o
          → operate (Some o) r (fields_from s begin) ≡ applied o r (pair_in (get_or (set memory i e) 0 d)) (pair_in (get_or (set memory i e) 1 d)) (pair_in (get_or (set memory i e) 2 d))
      turn_last d h n =
          sym k.same ∙ ap (onward o r k.done) (field_last s from here h) ∙ onward-last o r k.done (field_text s from) found.0 found.1 (omega (arith, k.many))
          ∙ sym (applied-computed r (set memory i e) d o (k.done ++ (found.0 ∷ [])) (simp length-append (omega (arith, k.many))) (ap (λ m. map pair_in (take m (set memory i e))) (sym n) ∙ stored))

      pub turn_next : get_or s (field_end s from) 0 ≡ 32 → Reading s begin o r (set memory i e) (i + 1) (field_end s from + 1)
      turn_next h = record {
        done = k.done ++ (found.0 ∷ []);
        many = simp length-append (omega (arith, k.many));
        stored = stored;
        same_end = sym (end_then s from here h) ∙ k.same_end;
        same = sym (sym k.same ∙ ap (onward o r k.done) (field_then s from here h) ∙ onward-next o r k.done (field_text s from) found.0 found.1 (fields_from s (field_end s from + 1)));
      }
