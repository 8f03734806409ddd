-- How much of the input is read: all of it, or the 128 bytes that decide. r are the bytes of the input, r' those that are left.
use Rattle.std.specs.Prelude.{◌≡◌, ℕ, ◌≤◌, ◌<◌, List, ◌++◌, length, Option, None, Some, IfSome, Result, Ok, Err, OnOk}
use Rattle.std.specs.Io.KnownBytes.{Appends, Consumes, IsAtEnd}
use Rattle.std.proofs.Common.{refl, sym, ap, subst, ◌∙◌, arith, take_at}
use Rattle.std.proofs.KnownBytes.{Consumes-whole}
use Rattle.std.proofs.Math.Decide.{dec_lt}
use Rattle.burnin.specs.Input.{constants, printed}
use Rattle.burnin.specs.Decided.{decided}

-- whatever is left
whatever : (r r' : Option (List ℕ)) (b : List ℕ) (P : List ℕ → Type 0) → Consumes r r' b → ((u : List ℕ) → P (b ++ u)) → IfSome r P
whatever None r' b P c f = tt
whatever (Some x) None b P c f = absurd c
whatever (Some x) (Some y) b P c f = subst P (sym c) (f y)

full_decides : (b u : List ℕ) → length b ≡ 128 → constants b ≡ constants (b ++ u)
full_decides b u e = ap constants (sym (take_at b u 128 e)) ∙ decided (b ++ u)

pub read_decides : (r r' : Option (List ℕ)) (b : List ℕ) → Consumes r r' b → length b ≤ 128 → (length b < 128 → IsAtEnd r') → IfSome r (λ s. constants b ≡ constants s)
read_decides r r' b c h e = go (dec_lt (length b) 128)
  where
    go : Dec (length b < 128) → IfSome r (λ s. constants b ≡ constants s)
    go (yes l) = Consumes-whole r r' b (λ s. constants b ≡ constants s) c (e l) refl
    go (no l) = whatever r r' b (λ s. constants b ≡ constants s) c (λ u. full_decides b u (omega arith))

-- the line of what was read is that of the input
pub written : {E : Type 0} (r : Result (Unit {0}) E) (known a b : Option (List ℕ)) (t l : List ℕ) → OnOk r (Appends a b l) → l ≡ printed (constants t)
    → IfSome known (λ s. constants t ≡ constants s) → OnOk r (IfSome known (λ s. Appends a b (printed (constants s))))
written (Err e) known a b t l p q h = tt
written (Ok u) None a b t l p q h = tt
written (Ok u) (Some s) a b t l p q h = subst (Appends a b) (q ∙ ap printed h) p
