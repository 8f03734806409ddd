-- Laws that no proof cites any more, and that stand.
use Rattle.std.specs.Prelude.{◌≡◌, refl, ℕ, ◌-◌, ◌<◌, ◌≤◌, Bool, true, false}
use Rattle.std.proofs.Common.{arith}
use Rattle.decimal.specs.Digits.{is_digit}
use Rattle.decimal.specs.DigitLaws.{digit_bounds}
pub mod ReadLaws
pub mod FrontLaws
pub mod WrittenEnd

-- r is what the byte b is worth as a digit, and above 9 where it is none
pub record Digit (b r : ℕ) : Type 0 where
  pub worth : is_digit b ≡ true → r ≡ b - 48
  pub none : is_digit b ≡ false → 9 < r

module _ {b r : ℕ} (d : Digit b r) where
  pub digit_small : r ≤ 9 → (is_digit b ≡ true) × (r ≡ b - 48)
  digit_small h = go (is_digit b) refl
    where
      go : (t : Bool) → is_digit b ≡ t → (is_digit b ≡ true) × (r ≡ b - 48)
      go true e = (e, d.worth e)
      go false e = absurd (omega (arith, d.none e))

  pub digit_large : 9 < r → is_digit b ≡ false
  digit_large h = go (is_digit b) refl
    where
      go : (t : Bool) → is_digit b ≡ t → is_digit b ≡ false
      go true e = let q = digit_bounds b e in absurd (omega (arith, d.worth e))
      go false e = e
