-- How far the input is read: what was read is whole blocks, and the tally is theirs. r are the bytes of the input, r' those that are left.
use Rattle.std.specs.Prelude.{◌≡◌, ℕ, ◌+◌, ◌≤◌, ◌<◌, Option, None, Some, IfSome, Result, Ok, Err, OnOk}
use Rattle.std.specs.Io.KnownBytes.{Appends, Consumes, IsAtEnd}
use Rattle.std.proofs.Common.{refl, sym, ap, subst, ◌∙◌, arith, length-append}
use Rattle.std.proofs.KnownBytes.{Consumes-nil, Consumes-trans, Consumes-whole}
use mathlib.Core.List.{List, [], ◌∷◌, ◌++◌, flatten}
use Rattle.std.proofs.Math.ListN.{length, take}
use Rattle.std.proofs.Math.Seq.{take_all}
use Rattle.directed.specs.Located.{Located, value, refusal}
use Rattle.day.specs.File.{Total, report, line}
use Rattle.day.specs.FileLaws.{flatten-snoc}
use Rattle.day.specs.Tally.{Count, first, step, told}
use Rattle.day.specs.TallyLaws.{steps, steps-append, few_blocks}
use Rattle.day.specs.Stream.{Led, start, part, block, closed, cut_anyhow, decided, Told, told-end, told_early, Printed, told_printed}

pub record Read (n : ℕ) (r r' : Option (List ℕ)) (t : Located Count) : Type 0 where
  pub reads : List (List ℕ)
  pub way : Led t [] reads
  pub tally : t ≡ steps first reads
  pub count : length reads ≡ n
  pub consumed : Consumes r r' (flatten reads)

pub read-none : (r : Option (List ℕ)) → Read 0 r r first
unfolding flatten steps
read-none r = record { reads = []; way = start; tally = refl; count = refl; consumed = Consumes-nil r }

-- b more
more : (r r' r'' : Option (List ℕ)) (reads : List (List ℕ)) (b : List ℕ) → Consumes r r' (flatten reads) → Consumes r' r'' b → Consumes r r'' (flatten (reads ++ (b ∷ [])))
more r r' r'' reads b c d = subst (Consumes r r'') (sym (flatten-snoc reads b)) (Consumes-trans r r' r'' (flatten reads) b c d)

pub read-block : {k : ℕ} {r r' : Option (List ℕ)} (r'' : Option (List ℕ)) {t u : Located Count} (n : ℕ) (b : List ℕ) → Read k r r' t → length b ≡ 512 → 512 ≤ n
    → Consumes r' r'' (take n b) → u ≡ step t b → Read (k + 1) r r'' u
unfolding steps
read-block r'' n b s e h c f =
    rw f
    (record {
      reads = s.reads ++ (b ∷ []);
      way = block b s.way e;
      tally = ap (λ x. step x b) s.tally ∙ sym (steps-append first s.reads (b ∷ []));
      count = simp length-append (omega (arith, s.count));
      consumed = more _ _ _ s.reads b s.consumed (rw (take_all n b (omega arith)) at c);
    })

-- a tally is of few blocks
pub few_read : {k : ℕ} {r r' : Option (List ℕ)} {c : Count} → Read k r r' (value c) → k ≤ 100
few_read s = omega (arith, s.count, few_blocks s.reads (sym s.tally))

-- a short block, or none, at the end
pub read-end : {k : ℕ} {r r' : Option (List ℕ)} (r'' : Option (List ℕ)) {t : Located Count} (b : List ℕ) → Read k r r' t → length b < 512 → Consumes r' r'' b → IsAtEnd r''
    → IfSome r (λ s. told (closed t b) ≡ report s)
read-end {r} r'' b s h c e = Consumes-whole r r'' _ (λ l. told (closed _ b) ≡ report l) (more _ _ _ s.reads b s.consumed c) e (cut_anyhow (part b s.way h))

-- whatever is left
whatever : (r r' : Option (List ℕ)) (s : List ℕ) (P : List ℕ → Type 0) → Consumes r r' s → ((u : List ℕ) → P (s ++ u)) → IfSome r P
whatever None r' s P c f = tt
whatever (Some x) None s P c f = absurd c
whatever (Some x) (Some y) s P c f = subst P (sym c) (f y)

pub read-refused : {k : ℕ} {r r' : Option (List ℕ)} {n place : ℕ} → Read k r r' (refusal n place) → IfSome r (λ s. refusal n place ≡ report s)
read-refused {r} {r'} s = whatever r r' (flatten s.reads) _ s.consumed (decided s.way)

-- where the bytes of the input are not known
pub told-last : {k : ℕ} {r r' : Option (List ℕ)} {t : Located Count} (b : List ℕ) → Read k r r' t → length b < 512 → Told (told (closed t b))
told-last b s h = told-end (record { reads = s.reads ++ (b ∷ []); way = part b s.way h })

pub told_first : {k : ℕ} {r r' : Option (List ℕ)} {n place : ℕ} → Read k r r' (refusal n place) → Told (refusal n place)
told_first s = told_early (record { reads = s.reads; way = s.way })

-- the line of what is told is that of the report
pub written : {E : Type 0} (r : Result (Unit {0}) E) (known a b : Option (List ℕ)) (t : Located Total) (l : List ℕ) → OnOk r (Appends a b l) → l ≡ line t
    → IfSome known (λ s. t ≡ report s) → OnOk r (IfSome known (λ s. Appends a b (line (report s))))
written (Err e) known a b t l p q h = tt
written (Ok u) None a b t l p q h = tt
written (Ok u) (Some s) a b t l p q h = subst (Appends a b) (q ∙ ap line h) p

-- of a reader whose bytes are not known it is the line of what some reads come to
pub written_told : {E : Type 0} (r : Result (Unit {0}) E) (a b : Option (List ℕ)) (t : Located Total) (l : List ℕ) → OnOk r (Appends a b l) → l ≡ line t → Told t
    → OnOk r ((s : List ℕ) × Appends a b s × Printed s)
written_told (Err e) a b t l p q h = tt
written_told (Ok u) a b t l p q h = (l, p, told_printed h q)
