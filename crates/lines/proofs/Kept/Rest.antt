-- Laws that no proof cites any more, and that stand: what is answered from a place of a line on, where the pairs are counted down.
use Rattle.std.specs.Prelude.{◌≡◌, List, [], ◌∷◌, ℕ, ◌+◌, ◌-◌, ◌≤◌, ◌<◌, length, take, drop, get_or, Option, Result}
use Rattle.std.proofs.Common.{sym, ap, ap₂, ◌∙◌, arith}
use Rattle.directed.specs.declared.Interval.{Interval}
use Rattle.directed.specs.declared.Cause.{Cause}
use Rattle.directed.specs.declared.Rounding.{Rounding}
use Rattle.directed.specs.Thousandths.{Pair}
use Rattle.directed.specs.Answer.{Outcome, value, refusal, outcome, built}
use Rattle.text.specs.declared.Found.{Found}
use Rattle.text.specs.Answer.{read}
use Rattle.lines.specs.declared.Operation.{Operation}
use Rattle.lines.specs.Line.{operate}
use Rattle.lines.specs.Cut.{stop, fields_from, line_end, more, IsEndedLines, next-inside}
use Rattle.lines.specs.Rest.{limited, Answers, counted}
use Rattle.lines.proofs.RestLaws.{limited-12, counted-12}
use Rattle.lines.proofs.Kept.{limited-built, final, remaining, remaining-refused, remaining-few, remaining-last, remaining-many, remaining-second, remaining-first}
use Rattle.lines.proofs.Kept.Cut.{field_first, field_then, field_last, end_then, end_last}

pub answers_as : {s : List ℕ} {start from from' : ℕ} {o o' : Outcome Pair} {r : Found (Result Interval Cause)} → line_end s from ≡ line_end s from' → o' ≡ o
    → Answers s start from' o' r → Answers s start from o r
answers_as {s} {start} e f a = record {
  end_is = a.end_is ∙ sym e;
  answer_is = a.answer_is ∙ ap₂ (λ n o. built (limited (n - start) o)) (sym e) f;
}

module _ (s : List ℕ) (start from : ℕ) (o : Outcome Pair) (r : Found (Result Interval Cause)) (e : ℕ) (is : e ≡ line_end s from) where
  pub answers_limited : {x : Outcome Interval} → (r.next ≡ e) × (outcome r.value ≡ limited (e - start) x) → x ≡ built o → Answers s start from o r
  answers_limited f q = record {
    end_is = f.0 ∙ is;
    answer_is = f.1 ∙ ap₂ (λ n y. limited (n - start) y) is q ∙ limited-built (line_end s from - start) o;
  }

  -- 12 whatever the length
  pub answers_12 : (r.next ≡ e) × (outcome r.value ≡ refusal 12) → o ≡ refusal 12 → Answers s start from o r
  answers_12 f q = record {
    end_is = f.0 ∙ is;
    answer_is = f.1 ∙ sym (ap built (ap (limited (line_end s from - start)) q ∙ limited-12 (line_end s from - start)));
  }

-- While the pairs of a line are read: from here on, with so many left and what was read, the answer is that from `begin` on.
pub record Reading (s : List ℕ) (start begin : ℕ) (o : Option Operation) (rounding : Rounding) (first second : Pair) (from left : ℕ) : Type 0 where
  pub inside : from < length s
  pub behind : start ≤ from
  pub same_end : line_end s from ≡ line_end s begin
  pub some : 1 ≤ left
  pub few : left ≤ 3
  pub same : remaining left (final o rounding) first second (fields_from s from) ≡ operate o rounding (fields_from s begin)

module _ {s : List ℕ} {start begin from left : ℕ} {o : Option Operation} {rounding : Rounding} {first second : Pair}
    (k : Reading s start begin o rounding first second from left) where
  -- a field that is refused
  pub turn_refused : (n : ℕ) (r : Found (Result Interval Cause)) → read (take (stop (drop from s)) (drop from s)) ≡ refusal n
      → Answers s start from (refusal (counted n left (length (fields_from s from)))) r → Answers s start begin (operate o rounding (fields_from s begin)) r
  turn_refused n r e a =
      let f = field_first s from in
      let q : refusal (counted n left (length (fields_from s from))) ≡ remaining left (final o rounding) first second (fields_from s from) =
      ap (λ fs. refusal (counted n left (length fs))) f ∙ remaining-refused (final o rounding) first second (take (stop (drop from s)) (drop from s)) n e left (more (drop (stop (drop from s)) (drop from s))) k.some k.few ∙ ap (remaining left (final o rounding) first second) (sym f) in
      answers_as (sym k.same_end) (q ∙ k.same) a

  -- a pair
  module _ (p : Pair) (e : ℕ) (is : e ≡ from + stop (drop from s)) (here : e < length s) (reads : read (take (e - from) (drop from s)) ≡ value p) where
    module _ (h : get_or s e 0 ≡ 32 → ⊥) where
      pub ends : e ≡ line_end s begin
      ends = sym (end_last s from e is here h) ∙ k.same_end

      pub whole : remaining left (final o rounding) first second (take (e - from) (drop from s) ∷ []) ≡ operate o rounding (fields_from s begin)
      whole = ap (remaining left (final o rounding) first second) (sym (field_last s from e is here h)) ∙ k.same

      pub turn_few : (r : Found (Result Interval Cause)) → (r.next ≡ e) × (outcome r.value ≡ refusal 12) → (left ≡ 1 → ⊥) → Answers s start begin (operate o rounding (fields_from s begin)) r
      turn_few r f n = answers_12 s start begin _ r e ends f (sym whole ∙ remaining-few (final o rounding) first second (take (e - from) (drop from s)) left n)

      pub turn_done : (r : Found (Result Interval Cause)) {x : Outcome Interval} → (r.next ≡ e) × (outcome r.value ≡ limited (e - start) x) → x ≡ built (final o rounding first second p) → left ≡ 1
          → Answers s start begin (operate o rounding (fields_from s begin)) r
      turn_done r f q n =
          answers_limited s start begin _ r e ends f
          (q ∙ ap built (sym (remaining-last (final o rounding) first second (take (e - from) (drop from s)) p reads)
          ∙ ap (λ n. remaining n (final o rounding) first second (take (e - from) (drop from s) ∷ [])) (sym n) ∙ whole))

    module _ (h : get_or s e 0 ≡ 32) where
      pub turn_many : (m : ℕ) (r : Found (Result Interval Cause)) → left ≡ 1 → Answers s start from (refusal (counted 12 left m)) r → Answers s start begin (operate o rounding (fields_from s begin)) r
      turn_many m r n a =
          answers_as (sym k.same_end)
          (ap refusal (counted-12 left m) ∙ sym (remaining-many (final o rounding) first second (take (e - from) (drop from s)) left n s (e + 1))
          ∙ ap (remaining left (final o rounding) first second) (sym (field_then s from e is here h)) ∙ k.same) a

      module _ (l : IsEndedLines s) where
        pub turn_second : left ≡ 2 → Reading s start begin o rounding first p (e + 1) (left - 1)
        turn_second n = record {
          inside = next-inside l e here (λ q. omega arith);
          behind = omega (arith, k.behind);
          same_end = sym (end_then s from e is here h) ∙ k.same_end;
          some = omega arith;
          few = omega arith;
          same = sym (remaining-second (final o rounding) first second (take (e - from) (drop from s)) p reads left (fields_from s (e + 1)) n)
              ∙ ap (remaining left (final o rounding) first second) (sym (field_then s from e is here h)) ∙ k.same;
        }

        pub turn_first : (left ≡ 1 → ⊥) → (left ≡ 2 → ⊥) → Reading s start begin o rounding p second (e + 1) (left - 1)
        turn_first n₁ n₂ = record {
          inside = next-inside l e here (λ q. omega arith);
          behind = omega (arith, k.behind);
          same_end = sym (end_then s from e is here h) ∙ k.same_end;
          some = omega (arith, k.some);
          few = omega (arith, k.few);
          same = sym (remaining-first (final o rounding) first second (take (e - from) (drop from s)) p reads left (fields_from s (e + 1)) (omega (arith, k.some, k.few)))
              ∙ ap (remaining left (final o rounding) first second) (sym (field_then s from e is here h)) ∙ k.same;
        }
