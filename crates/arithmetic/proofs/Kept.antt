-- Laws that no proof cites any more, and that stand.
use Rattle.std.specs.Prelude.{◌≡◌, true, false, ◌≤◌, ℤ, pos, neg_ℤ, nat_abs}
use Rattle.std.proofs.Common.{sym}
use Rattle.std.specs.Int.Signed.{lt_z}
use Rattle.integers.specs.Floor.{floor}
use Rattle.integers.proofs.Floor.{floor-neg-neg}
use Rattle.integers.specs.Locals.{lt-true}
use Rattle.integers.specs.Sizes.{product_bound}
use Rattle.directed.specs.Answer.{given, stored_binary}
use Rattle.directed.specs.Answer as answer
use Rattle.directed.specs.Claim.{claim}
use Rattle.directed.specs.KindLaws.{sound_parts}
use Rattle.directed.specs.Lift.{pair_of, faulty}
use Rattle.directed.specs.declared.Binary.{Binary}
use Rattle.directed.specs.declared.Ends.{Ends}
use Rattle.directed.specs.declared.Interval.{Interval}
use Rattle.directed.specs.declared.Rounding.{Rounding}
use Rattle.directed.specs.declared.Rounding.TheVariants.{Outward}
use Rattle.directed_laws.specs.Answer.{given-none, given-passed}
use Rattle.directed_laws.specs.Stored.{stored_agrees}
use Rattle.arithmetic.specs.Claim.{answered, claim-told}
use Rattle.arithmetic.specs.Product.{ends}
use Rattle.arithmetic.specs.Quotient.{count}

-- a quotient by a divisor below zero
pub floor_turned : (n d : ℤ) → lt_z d (pos 0) ≡ true → floor (neg_ℤ n) (neg_ℤ d) ≡ floor n d
floor_turned n d h = floor-neg-neg n d (lt-true h)

-- so that both can be divided in 64 bits
pub record Sized (e : Ends ℤ) : Type 0 where
  pub low : nat_abs e.lower ≤ product_bound
  pub high : nat_abs e.upper ≤ product_bound

pub sized : (l u : ℤ) → nat_abs l ≤ product_bound → nat_abs u ≤ product_bound → Sized (ends l u)
sized l u h k = record { low = h; high = k }

-- what is given is not refused
pub binary_passed : (rounding : Rounding) (op : Binary) (a b : Interval) → faulty a ≡ false → faulty b ≡ false → answer.binary rounding op a b ≡ stored_binary rounding op a b
unfolding answer.binary given
binary_passed rounding op a b e f = rw (e, f) (sym (stored_agrees rounding op a b (sound_parts a e).1 (sound_parts b f).1))

pub claim_passed : (a c b p : Interval) → faulty a ≡ false → faulty c ≡ false → faulty b ≡ false → faulty p ≡ false → claim a c b p ≡ answered (pair_of p) (count Outward a c b)
claim_passed a c b p e f g h = sym (claim-told a c b p (given-passed a _ e (given-passed c _ f (given-passed b _ g (given-passed p _ h given-none)))))
