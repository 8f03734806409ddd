-- Laws that no proof cites any more, and that stand: the first and the second field of a line at a place: one letter each, or none.
use Rattle.std.specs.Prelude.{◌≡◌, refl, Bool, true, false, ◌||◌, List, [], ◌∷◌, ℕ, zero, suc, ◌+◌, ◌-◌, ◌≤◌, ◌<◌, eqb, length, take, drop, get_or, Option, Some, None, Result}
use Rattle.std.proofs.Common.{sym, ap, ◌∙◌, arith, eqb-true, drop-cons}
use Rattle.directed.specs.declared.Interval.{Interval}
use Rattle.directed.specs.declared.Cause.{Cause}
use Rattle.directed.specs.declared.Rounding.{Rounding}
use Rattle.directed.specs.Answer.{refusal, outcome}
use Rattle.text.specs.declared.Found.{Found}
use Rattle.lines.specs.declared.Operation.{Operation}
use Rattle.lines.specs.declared.Operation.TheVariants.{Two, Equation}
use Rattle.lines.specs.Line as line
use Rattle.lines.specs.Line.{first_letter, first_field, second_letter, second_field, operate, by_letters, of_fields}
use Rattle.lines.specs.Cut.{some-field, first_line, ends_field, stop, fields_from, more}
use Rattle.lines.specs.Rest.{Answers}
use Rattle.lines.specs.Letters.{operate_first}
use Rattle.lines.proofs.Kept.{stop-miss, wanted}
use Rattle.lines.proofs.Kept.Cut.{field_first, field_then, field_last, end_then, end_last}
use Rattle.lines.proofs.Kept.Rest.{answers_as, answers_12}

-- what a field means that is one letter; another, if it is none
unfoldable pub one_letter : {A : Type 0} → (ℕ → A) → A → List ℕ → A
one_letter meaning other [] = other
one_letter meaning other (b ∷ []) = meaning b
one_letter meaning other (b ∷ c ∷ f) = other

-- where nothing is the other, this is what `one_letter` of specs/Line says
pub same : {A : Type 0} (meaning : ℕ → Option A) (f : List ℕ) → line.one_letter meaning f ≡ one_letter meaning None f
unfolding one_letter line.one_letter
same meaning [] = refl
same meaning (b ∷ []) = refl
same meaning (b ∷ c ∷ f) = refl

pub none-wanted : (o : Option Operation) → wanted o ≡ 0 → o ≡ None
unfolding wanted
none-wanted (Some (Two operation)) e = absurd (omega arith)
none-wanted (Some Equation) e = absurd (omega arith)
none-wanted None e = refl

-- a letter is no byte that ends a field
pub operation_inside : (b : ℕ) → 1 ≤ wanted (second_letter b) → ends_field b ≡ false
unfolding wanted second_letter ends_field
operation_inside b h = go (eqb b 32) (eqb b 10) refl refl
  where
    go : (x y : Bool) → eqb b 32 ≡ x → eqb b 10 ≡ y → x || y ≡ false
    go true y p q = absurd (omega (arith, ap (λ n. wanted (second_letter n)) (eqb-true b 32 p)))
    go false true p q = absurd (omega (arith, ap (λ n. wanted (second_letter n)) (eqb-true b 10 q)))
    go false false p q = refl

pub rounding-inside : (b : ℕ) {rounding : Rounding} → first_letter b ≡ Some rounding → ends_field b ≡ false
unfolding first_letter ends_field
rounding-inside b {rounding} h = go (eqb b 32) (eqb b 10) refl refl
  where
    none : None ≡ Some rounding → ⊥
    none e = let z : ◌≡◌ {A = ℕ} 0 1 = cc in omega arith

    go : (x y : Bool) → eqb b 32 ≡ x → eqb b 10 ≡ y → x || y ≡ false
    go true y p q = absurd (none (sym (ap first_letter (eqb-true b 32 p)) ∙ h))
    go false true p q = absurd (none (sym (ap first_letter (eqb-true b 10 q)) ∙ h))
    go false false p q = refl

-- a field by its first byte
module _ {A : Type 0} (meaning : ℕ → A) (other : A) (s : List ℕ) (from : ℕ) (h : from < length s) where
  pub letter_none : meaning (get_or s from 0) ≡ other → (k : ℕ) → one_letter meaning other (take k (drop from s)) ≡ other
  unfolding one_letter
  letter_none e k = rw (drop-cons s from 0 h) (go k (drop (suc from) s))
    where
      go : (k : ℕ) (t : List ℕ) → one_letter meaning other (take k (get_or s from 0 ∷ t)) ≡ other
      go zero t = refl
      go (suc zero) t = e
      go (suc (suc k)) [] = e
      go (suc (suc k)) (b ∷ t) = refl

  pub letter_long : (k : ℕ) → 1 < k → from + 1 < length s → one_letter meaning other (take k (drop from s)) ≡ other
  unfolding one_letter
  letter_long k g i = rw (drop-cons s from 0 h, drop-cons s (suc from) 0 (omega arith)) (go k g)
    where
      go : (k : ℕ) → 1 < k → one_letter meaning other (take k (get_or s from 0 ∷ get_or s (suc from) 0 ∷ drop (suc (suc from)) s)) ≡ other
      go zero g = absurd (omega arith)
      go (suc zero) g = absurd (omega arith)
      go (suc (suc k)) g = refl

  pub letter_one : (k : ℕ) → k ≡ 1 → one_letter meaning other (take k (drop from s)) ≡ meaning (get_or s from 0)
  unfolding one_letter
  letter_one k g = rw (g, drop-cons s from 0 h)

-- a first field that says how to round, or not, before others
module _ (f : List ℕ) (s : List ℕ) (i : ℕ) where
  pub first_rounds : (rounding : Rounding) → first_field f ≡ Some rounding → operate_first rounding (fields_from s i) ≡ of_fields (f ∷ fields_from s i)
  unfolding of_fields by_letters operate_first fields_from
  first_rounds rounding e = some-field (λ fs. operate_first rounding fs ≡ of_fields (f ∷ fs)) (λ g ps. ap (λ o. by_letters o (second_field g) ps) (sym e)) (first_line (drop i s))

  pub first_none : first_field f ≡ None → refusal 6 ≡ of_fields (f ∷ fields_from s i)
  unfolding of_fields by_letters fields_from
  first_none e = some-field (λ fs. refusal 6 ≡ of_fields (f ∷ fs)) (λ g ps. ap (λ o. by_letters o (second_field g) ps) (sym e)) (first_line (drop i s))

pub first_alone : (f : List ℕ) → of_fields (f ∷ []) ≡ refusal 12
unfolding of_fields
first_alone f = refl

-- a second field
pub second_is : (o : Option Operation) (g : List ℕ) (rounding : Rounding) (ps : List (List ℕ)) → second_field g ≡ o → operate o rounding ps ≡ operate_first rounding (g ∷ ps)
unfolding operate_first
second_is o g rounding ps e = ap (λ o. operate o rounding ps) (sym e)

pub second_none : (g : List ℕ) (rounding : Rounding) (ps : List (List ℕ)) → second_field g ≡ None → refusal 6 ≡ operate_first rounding (g ∷ ps)
unfolding operate operate_first
second_none g rounding ps e = ap (λ o. operate o rounding ps) (sym e)

pub second_alone : (o : Option Operation) (rounding : Rounding) → 1 ≤ wanted o → operate o rounding [] ≡ refusal 12
unfolding wanted operate
second_alone (Some (Two operation)) rounding h = refl
second_alone (Some Equation) rounding h = refl
second_alone None rounding h = absurd (omega arith)

-- the field that begins with the byte at `from`, if that byte ends no field, and the field ends at e
module _ (s : List ℕ) (from e : ℕ) (h : from < length s) (m : ends_field (get_or s from 0) ≡ false) (is : e ≡ (from + 1) + stop (drop (from + 1) s)) where
  pub letter_end : e ≡ from + stop (drop from s)
  letter_end = is ∙ stop-miss s from h m

  pub letter_more : (e ≡ from + 1 → ⊥) → 1 < stop (drop from s)
  letter_more n = omega (arith, letter_end, stop-miss s from h m)

-- the second field
module _ (s : List ℕ) (start from : ℕ) (rounding : Rounding) (h : from < length s) (r : Found (Result Interval Cause)) where
  pub op_refused : second_field (take (stop (drop from s)) (drop from s)) ≡ None → Answers s start from (refusal 6) r → Answers s start from (operate_first rounding (fields_from s from)) r
  op_refused e a =
      answers_as refl (second_none (take (stop (drop from s)) (drop from s)) rounding (more (drop (stop (drop from s)) (drop from s))) e ∙ ap (operate_first rounding) (sym (field_first s from))) a

  pub op_none : wanted (second_letter (get_or s from 0)) ≡ 0 → Answers s start from (refusal 6) r → Answers s start from (operate_first rounding (fields_from s from)) r
  op_none e a = op_refused (same second_letter (take (stop (drop from s)) (drop from s)) ∙ letter_none second_letter None s from h (none-wanted _ e) (stop (drop from s))) a

  module _ (w : 1 ≤ wanted (second_letter (get_or s from 0))) (e : ℕ) (is : e ≡ (from + 1) + stop (drop (from + 1) s)) (here : e < length s) where
    pub ended : e ≡ from + stop (drop from s)
    ended = letter_end s from e h (operation_inside _ w) is

    pub op_long : (e ≡ from + 1 → ⊥) → Answers s start from (refusal 6) r → Answers s start from (operate_first rounding (fields_from s from)) r
    op_long n a =
        let k = letter_more s from e h (operation_inside _ w) is n in
        op_refused (same second_letter (take (stop (drop from s)) (drop from s)) ∙ letter_long second_letter None s from h (stop (drop from s)) k (omega (arith, ended))) a

    module _ (q : e ≡ from + 1) where
      pub op_is : second_field (take (e - from) (drop from s)) ≡ second_letter (get_or s from 0)
      op_is = same second_letter (take (e - from) (drop from s)) ∙ letter_one second_letter None s from h (e - from) (omega arith)

      pub op_alone : (get_or s e 0 ≡ 32 → ⊥) → (r.next ≡ e) × (outcome r.value ≡ refusal 12) → Answers s start from (operate_first rounding (fields_from s from)) r
      op_alone n x =
          answers_12 s start from (operate_first rounding (fields_from s from)) r e (sym (end_last s from e ended here n)) x
          (ap (operate_first rounding) (field_last s from e ended here n)
          ∙ sym (second_is (second_letter (get_or s from 0)) (take (e - from) (drop from s)) rounding [] op_is)
          ∙ second_alone (second_letter (get_or s from 0)) rounding w)

      pub op_then : get_or s e 0 ≡ 32 → Answers s start (e + 1) (operate (second_letter (get_or s from 0)) rounding (fields_from s (e + 1))) r
          → Answers s start from (operate_first rounding (fields_from s from)) r
      op_then n a =
          answers_as (end_then s from e ended here n)
          (second_is (second_letter (get_or s from 0)) (take (e - from) (drop from s)) rounding (fields_from s (e + 1)) op_is
          ∙ ap (operate_first rounding) (sym (field_then s from e ended here n))) a

-- the first field
module _ (s : List ℕ) (start e : ℕ) (is : e ≡ start + stop (drop start s)) (here : e < length s) (r : Found (Result Interval Cause)) where
  pub first_last : (get_or s e 0 ≡ 32 → ⊥) → (r.next ≡ e) × (outcome r.value ≡ refusal 12) → Answers s start start (of_fields (fields_from s start)) r
  first_last n x =
      answers_12 s start start (of_fields (fields_from s start)) r e (sym (end_last s start e is here n)) x
      (ap of_fields (field_last s start e is here n) ∙ first_alone (take (e - start) (drop start s)))

  pub first_refused : get_or s e 0 ≡ 32 → first_field (take (stop (drop start s)) (drop start s)) ≡ None → Answers s start (e + 1) (refusal 6) r
      → Answers s start start (of_fields (fields_from s start)) r
  first_refused n f a =
      let k : e - start ≡ stop (drop start s) = omega arith in
      answers_as (end_then s start e is here n)
      (first_none (take (e - start) (drop start s)) s (e + 1) (ap (λ k. first_field (take k (drop start s))) k ∙ f) ∙ ap of_fields (sym (field_then s start e is here n))) a

  pub first_then : (rounding : Rounding) → get_or s e 0 ≡ 32 → start < length s → e ≡ start + 1 → first_letter (get_or s start 0) ≡ Some rounding
      → Answers s start (e + 1) (operate_first rounding (fields_from s (e + 1))) r → Answers s start start (of_fields (fields_from s start)) r
  first_then rounding n h q f a =
      answers_as (end_then s start e is here n)
      (first_rounds (take (e - start) (drop start s)) s (e + 1) rounding (same first_letter (take (e - start) (drop start s)) ∙ letter_one first_letter None s start h (e - start) (omega arith) ∙ f)
      ∙ ap of_fields (sym (field_then s start e is here n))) a
