-- Laws that no proof cites any more, and that stand: the step at the front of some bytes, 13 for none.
use Rattle.std.specs.Prelude.{◌≡◌, List, [], ◌∷◌, ◌++◌, ℕ, ◌+◌, ◌-◌, ◌≤◌, ◌<◌, length, take, drop, get_or}
use Rattle.std.proofs.Common.{ap, arith}
use Rattle.series.specs.Steps.{Known, constant, code, bytes_of}
use Rattle.series.specs.Bytes.{Reads, as_constant, as_code}
use Rattle.series.proofs.Kept.{Front, at_constant, at_code, front}

-- the step at the front of the bytes
pub record Heads (k : ℕ) (b : List ℕ) (r : ℕ) : Type 0 where
  pub to : r ≤ 13
  pub known : r < 13 → Known k r
  pub stands : r < 13 → b ≡ bytes_of r ++ drop (length (bytes_of r)) b
  pub only : (d : ℕ) (c : List ℕ) → Known k d → bytes_of d ++ c ≡ b → d ≡ r

-- r steps were read into es, or r is n + 1 and there is nothing to read
pub record ReadAs (k w : ℕ) (b : List ℕ) (n : ℕ) (es : List ℕ) (r : ℕ) : Type 0 where
  pub to : r ≤ n + 1
  pub inside : r ≤ n → Reads k w n b (take r es)
  pub outside : n < r → (ds : List ℕ) → Reads k w n b ds → ⊥

-- no step stands there
pub none-there : (k x : ℕ) (b : List ℕ) → k ≤ 4 → ((d : ℕ) → Front k d x b → ⊥) → Heads k (x ∷ b) 13
none-there k x b m n = record {
  to = omega arith;
  known = λ i. absurd (omega arith);
  stands = λ i. absurd (omega arith);
  only = λ d c u e. absurd (n d (front k d x b c m u e));
}

module _ (k : ℕ) (m : k ≤ 4) where
  pub heads_short : (l : List ℕ) → 1 ≤ length l → get_or l 0 0 ≡ 0 → length l < 2 → Heads k l 13
  heads_short [] h z i = absurd (omega arith)
  heads_short (x ∷ y ∷ b) h z i = absurd (omega arith)
  heads_short (x ∷ []) h z i = none-there k x [] m go
    where
      go : (d : ℕ) → Front k d x [] → ⊥
      go d (at_constant a o c e) = omega (arith, ap length e)
      go d (at_code a b o) = omega arith

  pub heads_constant : (l : List ℕ) → 2 ≤ length l → get_or l 0 0 ≡ 0 → get_or l 1 0 < k → Heads k l (get_or l 1 0)
  heads_constant [] h z i = absurd (omega arith)
  heads_constant (x ∷ []) h z i = absurd (omega arith)
  heads_constant (x ∷ p ∷ b) h z i = record {
    to = omega arith;
    known = λ j. constant i;
    stands = λ j. rw (as_constant p (omega arith), z);
    only = λ d c u e. go d (front k d x (p ∷ b) c m u e);
  }
    where
      go : (d : ℕ) → Front k d x (p ∷ b) → d ≡ p
      go d (at_constant a o c e) = cc
      go d (at_code a b o) = absurd (omega arith)

  pub heads_beyond : (l : List ℕ) → 2 ≤ length l → get_or l 0 0 ≡ 0 → k ≤ get_or l 1 0 → Heads k l 13
  heads_beyond [] h z i = absurd (omega arith)
  heads_beyond (x ∷ []) h z i = absurd (omega arith)
  heads_beyond (x ∷ p ∷ b) h z i = none-there k x (p ∷ b) m go
    where
      go : (d : ℕ) → Front k d x (p ∷ b) → ⊥
      go d (at_constant a o c e) = let q : p ≡ d = cc in omega arith
      go d (at_code a b o) = omega arith

  pub heads_code : (l : List ℕ) → 1 ≤ length l → (get_or l 0 0 ≡ 0 → ⊥) → get_or l 0 0 < 10 → Heads k l (get_or l 0 0 + 3)
  heads_code [] h z i = absurd (omega arith)
  heads_code (x ∷ b) h z i = record {
    to = omega arith;
    known = λ j. code (omega (arith, z)) (omega arith);
    stands = λ j. let e : x + 3 - 3 ≡ x = omega arith in rw (as_code (x + 3) (omega (arith, z)), e);
    only = λ d c u e. go d (front k d x b c m u e);
  }
    where
      go : (d : ℕ) → Front k d x b → d ≡ x + 3
      go d (at_constant a o c e) = absurd (z o)
      go d (at_code a b o) = omega arith

  pub heads_none : (l : List ℕ) → 1 ≤ length l → 10 ≤ get_or l 0 0 → Heads k l 13
  heads_none [] h i = absurd (omega arith)
  heads_none (x ∷ b) h i = none-there k x b m go
    where
      go : (d : ℕ) → Front k d x b → ⊥
      go d (at_constant a o c e) = omega arith
      go d (at_code a b o) = omega arith
