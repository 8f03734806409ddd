-- Laws that no proof cites any more, and that stand: a number of constants as a byte, and what was read, 6 steps for nothing.
use Rattle.std.specs.Prelude.{◌≡◌, List, [], ◌∷◌, ℕ, ◌≤◌, ◌<◌, length, take}
use Rattle.std.proofs.Common.{arith}
use Rattle.series.specs.Steps.{Formed, Member}
use Rattle.series.specs.Series.{next_of, refused, effect, effect_of}
use Rattle.series.specs.Meaning.{formed_of, member_of}
use Rattle.series.specs.Generator.{Counted, not_there}
use Rattle.series.proofs.Kept.Bytes.{ReadAs}

-- a number of constants as a byte, 0 for any that isn't 1 to 4
pub record CountedAs (k r : ℕ) : Type 0 where
  pub counts : (r ≡ 0 → ⊥) → (r ≡ k) × Counted k
  pub none : r ≡ 0 → Counted k → ⊥

-- what was handed in was not read
pub not-read : {k r : ℕ} {b es : List ℕ} (d : List ℕ) → Counted k → ReadAs k 0 b 5 es r → 5 < r → effect (refused 20) d ≡ effect_of (next_of k b) d
unfolding effect_of
not-read {k} d q a l = rw (not_there k q (λ i. a.outside l i.steps (record { formed = formed_of q.few i.member; few = i.member.few; is = i.is })))

pub read_member : {k r : ℕ} {b es : List ℕ} → Counted k → ReadAs k 0 b 5 es r → r ≤ 5 → Member k (take r es)
read_member {k} {r} {b} {es} q a l = let y = a.inside l in member_of q.few (some-steps (take r es) y.formed) y.few y.formed
  where
    some-steps : (ds : List ℕ) → Formed k 0 ds → 1 ≤ length ds
    some-steps [] f = absurd (omega arith)
    some-steps (d ∷ ds) f = omega arith

-- a count that is none of 0 is the number itself
pub counts : {k r : ℕ} → CountedAs k r → (r ≡ 0 → ⊥) → Counted r
counts a n = let q = a.counts n in rw q.0 q.1
