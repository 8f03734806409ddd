-- Laws that no proof cites any more, and that stand: reading the constants line by line into a buffer.
use Rattle.std.specs.Prelude.{◌≡◌, refl, List, [], ◌∷◌, ◌++◌, ℕ, suc, ◌+◌, ◌-◌, ◌≤◌, ◌<◌, length, drop}
use Rattle.std.proofs.Common.{sym, ap, ◌∙◌, arith, length-append, length-drop, drop-drop, drop_of_length-le}
use Rattle.std.proofs.lemmas.List.{append-nil}
use Rattle.directed.specs.declared.Interval.{Interval}
use Rattle.directed.specs.Answer as answers
use Rattle.directed.specs.Answer.{built}
use Rattle.directed.specs.Lift.{pair_of}
use Rattle.directed.specs.Located.{value, refusal, at, after}
use Rattle.directed.specs.Thousandths.{Pair}
use Rattle.decimal.specs.PlaceLaws.{Wrote, Fitting, wrote_as, wrote_then, fitting_nil}
use Rattle.text.specs.Answer.{read}
use Rattle.lines.specs.Cut.{first_line, line_end}
use Rattle.series.specs.Generator.{Counted}
use Rattle.burnin.specs.Input.{constants_from, some, constants, pair_bytes}
use Rattle.burnin.specs.Stages.{joined, unjoined, constants_more, constants_many, constants_none, read_value, read_refusal}
use Rattle.burnin.proofs.Kept.{all_bytes, bytes_length, bytes_behind, wrote_length}

-- what `read` promises: the constants stand in the buffer l, which was d; or the refusal
pub record Holds (s d l : List ℕ) (n : ℕ) : Type 0 where
  pub pairs : List Pair
  pub read_as : constants s ≡ value pairs
  pub many : n ≡ length pairs
  pub counted : Counted n
  pub wrote : Wrote (all_bytes pairs) 0 d (length (all_bytes pairs)) l

-- before line count + 1, which begins at from
pub record Stage (s d : List ℕ) (from count next : ℕ) (l : List ℕ) : Type 0 where
  pub done : List Pair
  pub many : length done ≡ count
  pub few : count ≤ 4
  pub wrote : Wrote (all_bytes done) 0 d next l
  pub rest : constants_from 1 4 s ≡ after (constants_from (suc count) (4 - count) (drop from s)) (λ ps. value (done ++ ps))

pub stage_start : (s d : List ℕ) → Stage s d 0 0 0 d
unfolding all_bytes
stage_start s d = record { done = []; many = refl; few = omega arith; wrote = fitting_nil (omega arith); rest = unjoined (constants_from 1 4 s) }

module _ {s d l : List ℕ} {from count next : ℕ} (g : Stage s d from count next l) where
  -- ---- a line more
  module _ (h : from < length s) where
    there : 1 ≤ length (drop from s)
    there = rw (length-drop from s) (omega arith)

    opened : (count ≡ 4 → ⊥) → constants_from 1 4 s
        ≡ after (after (at (suc count) (read (first_line (drop from s)))) (λ p. after (constants_from (suc (suc count)) (4 - suc count) (drop (line_end s from + 1) s)) (λ ps. value (p ∷ ps)))) (λ ps. value (g.done ++ ps))
    unfolding line_end
    opened n =
        let e : 4 - count ≡ suc (4 - suc count) = omega (arith, g.few) in
        let f : from + (length (first_line (drop from s)) + 1) ≡ from + length (first_line (drop from s)) + 1 = omega arith in
        let i = constants_more (suc count) (4 - suc count) (drop from s) there in
        let j = drop-drop (length (first_line (drop from s)) + 1) from s ∙ ap (λ k. drop k s) f in
        g.rest ∙ ap (λ k. after (constants_from (suc count) k (drop from s)) (λ ps. value (g.done ++ ps))) e
        ∙ ap (λ x. after x (λ ps. value (g.done ++ ps)))
        (i ∙ ap (λ t. after (at (suc count) (read (first_line (drop from s)))) (λ p. after (constants_from (suc (suc count)) (4 - suc count) t) (λ ps. value (p ∷ ps)))) j)

    pub stage_value : {a : Interval} {m : ℕ} {l' : List ℕ} → 32 ≤ length d → (count ≡ 4 → ⊥) → answers.value a ≡ built (read (first_line (drop from s)))
        → Fitting (pair_bytes (pair_of a)) next l m l' → Stage s d (line_end s from + 1) (count + 1) m l'
    stage_value {a} {m} {l'} room n e f =
        let p = pair_of a in
        let c : count + 1 ≡ suc count = omega arith in
        let w = g.wrote in
        let ln : length l ≡ length d = wrote_length w (omega (arith, bytes_length g.done, g.few, g.many)) in
        let v = f (omega (arith, w.next_is, bytes_length g.done, g.few, g.many)) in
        rw c (record {
          done = g.done ++ (p ∷ []);
          many = length-append g.done (p ∷ []) ∙ omega (arith, g.many);
          few = omega (arith, g.few);
          wrote = wrote_as (bytes_behind g.done p) (wrote_then (omega arith) w v);
          rest = opened n ∙ rw (read_value (read (first_line (drop from s))) e) (joined g.done p (constants_from (suc (suc count)) (4 - suc count) (drop (line_end s from + 1) s)));
        })

    pub stage_refused : {n : ℕ} → (count ≡ 4 → ⊥) → answers.refusal n ≡ built (read (first_line (drop from s))) → constants s ≡ refusal n (count + 1)
    unfolding constants
    stage_refused {n} c e =
        let i : count + 1 ≡ suc count = omega arith in
        let o : constants_from 1 4 s ≡ refusal n (suc count) = opened c ∙ rw (read_refusal (read (first_line (drop from s))) e) in
        rw i (ap (λ x. after x some) o)

    pub stage_many : count ≡ 4 → constants s ≡ refusal 19 5
    unfolding constants
    stage_many e =
        let z : constants_from (suc count) (4 - count) (drop from s) ≡ refusal 19 5 = rw e (constants_many 5 (drop from s) there) in
        let o : constants_from 1 4 s ≡ refusal 19 5 = g.rest ∙ ap (λ x. after x (λ ps. value (g.done ++ ps))) z in
        ap (λ x. after x some) o

  -- ---- the end
  module _ (h : length s ≤ from) where
    whole : constants_from 1 4 s ≡ value g.done
    whole =
        let z : constants_from (suc count) (4 - count) (drop from s) ≡ value [] = rw (drop_of_length-le s {i = from} h) (constants_none (suc count) (4 - count)) in
        g.rest ∙ ap (λ x. after x (λ ps. value (g.done ++ ps))) z ∙ ap value (append-nil g.done)

    pub stage_none : count ≡ 0 → constants s ≡ refusal 19 1
    unfolding constants
    stage_none e = ap (λ x. after x some) whole ∙ go g.done (g.many ∙ e)
      where
        go : (ps : List Pair) → length ps ≡ 0 → some ps ≡ refusal 19 1
        go [] z = refl
        go (p ∷ ps) z = absurd (omega arith)

    pub stage_end : (count ≡ 0 → ⊥) → Holds s d l count
    unfolding constants
    stage_end n = record {
      pairs = g.done;
      read_as = ap (λ x. after x some) whole ∙ go g.done (λ z. n (sym g.many ∙ z));
      many = sym g.many;
      counted = record { some = omega (arith, n); few = g.few };
      wrote = record { next_is = omega arith; buffer_is = g.wrote.buffer_is };
    }
      where
        go : (ps : List Pair) → (length ps ≡ 0 → ⊥) → some ps ≡ value ps
        go [] z = absurd (z refl)
        go (p ∷ ps) z = refl
