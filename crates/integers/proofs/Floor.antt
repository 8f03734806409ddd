-- Laws of quotients rounded down and up: their universal properties, and how code computes them.
use Rattle.std.specs.Prelude.{◌↔◌, ◌≡◌, refl, ℕ, ◌<◌, ◌/◌, ◌≤◌, suc, ◌*◌, ℤ, pos, negsuc, nat_abs, ◌+ℤ◌, ◌-ℤ◌, neg_ℤ, ◌*ℤ◌, ◌≤ℤ◌, ◌<ℤ◌}
use Rattle.std.proofs.Common.{◌∙◌, ap, le-div_iff_mul-le, div-lt_iff_lt-mul, div-le_self, mul-pos, arith}
use Rattle.std.specs.Int.{int_div_euclid}
use Rattle.std.specs.Int.Signed.{quot_z, mag, ≤ℤ_refl}
use Rattle.integers.specs.Floor.{floor_nat, floor, ceiling}
use Rattle.integers.specs.Complement.{minus_one}
use Rattle.integers.specs.Laws.{neg_ℤ-*ℤ, ≤ℤ-antisym, *ℤ-mono, *ℤ-cancel_≤}
use Rattle.integers.specs.Parts.{sum, minus, less, is_diff, diffs, lin}
use Rattle.integers.specs.Sizes.{abs_neg}

-- ---- the universal property: k ≤ ⌊n / d⌋ exactly when k · d ≤ n
floor_nat-up : (k n : ℤ) (d : ℕ) → 0 < d → k ≤ℤ floor_nat n d → (k *ℤ pos d) ≤ℤ n
unfolding floor_nat
floor_nat-up (pos k) (pos n) d z h = omega (lin, (le-div_iff_mul-le {x = k} {y = n} z).0 (omega lin))
floor_nat-up (pos k) (negsuc n) d z h = absurd h.le
floor_nat-up (negsuc k) (pos n) d z h = omega (lin, minus (pos (suc k * d)))
floor_nat-up (negsuc k) (negsuc n) d z h = omega (lin, minus (pos (suc k * d)), (div-lt_iff_lt-mul {x = n} {y = suc k} z).0 (omega lin))

floor_nat-down : (k n : ℤ) (d : ℕ) → 0 < d → (k *ℤ pos d) ≤ℤ n → k ≤ℤ floor_nat n d
unfolding floor_nat
floor_nat-down (pos k) (pos n) d z h = omega (lin, (le-div_iff_mul-le {x = k} {y = n} z).1 (omega lin))
floor_nat-down (pos k) (negsuc n) d z h = absurd h.le
floor_nat-down (negsuc k) (pos n) d z h = omega lin
floor_nat-down (negsuc k) (negsuc n) d z h = omega (lin, (div-lt_iff_lt-mul {x = n} {y = suc k} z).1 (omega (lin, minus (pos (suc k * d)))))

floor_nat-iff : (k n : ℤ) (d : ℕ) → 0 < d → (k ≤ℤ floor_nat n d) ↔ ((k *ℤ pos d) ≤ℤ n)
floor_nat-iff k n d z = (floor_nat-up k n d z, floor_nat-down k n d z)

-- the same of a divisor above 0, of ℤ
pub floor-iff : (k n d : ℤ) → pos 0 <ℤ d → (k ≤ℤ floor n d) ↔ ((k *ℤ d) ≤ℤ n)
unfolding floor
floor-iff k n (pos d) z = floor_nat-iff k n d (omega lin)
floor-iff k n (negsuc d) z = absurd z.lt

-- and rounded up
neg-le : (a b : ℤ) → (neg_ℤ a ≤ℤ b) ↔ (neg_ℤ b ≤ℤ a)
neg-le a b = rw (is_diff a, is_diff b) (simp diffs (omega arith))

neg-fac : (k n d : ℤ) → ((neg_ℤ k *ℤ d) ≤ℤ neg_ℤ n) ↔ (n ≤ℤ (k *ℤ d))
neg-fac k n d = rw (is_diff k, is_diff n, is_diff d) (simp diffs (omega arith))

pub ceiling-iff : (k n d : ℤ) → pos 0 <ℤ d → (ceiling n d ≤ℤ k) ↔ (n ≤ℤ (k *ℤ d))
unfolding ceiling
ceiling-iff k n d z =
    let f = floor-iff (neg_ℤ k) (neg_ℤ n) d z in
    let g = neg-le (floor (neg_ℤ n) d) k in
    let e = neg-fac k n d in
    ((λ h. e.0 (f.0 (g.0 h))), (λ h. g.1 (f.1 (e.1 h))))

-- how code computes it: the quotient whose rest is not below zero, by a divisor above zero
pub floor-euclid : (n d : ℤ) → pos 0 <ℤ d → int_div_euclid n d ≡ floor n d
unfolding floor floor_nat
floor-euclid (pos n) (pos d) h = refl
floor-euclid (negsuc n) (pos d) h = refl
floor-euclid n (negsuc d) h = absurd h.lt

-- and with quotients of naturals: -1 - (-1 - n) / d where n is below 0
minus_one' : (m : ℕ) → negsuc 0 -ℤ pos m ≡ negsuc m
minus_one' m = omega (lin, sum (negsuc 0) (neg_ℤ (pos m)), minus (pos m))

pub floor-below_zero : (n d : ℤ) → n <ℤ pos 0 → pos 0 <ℤ d → negsuc 0 -ℤ quot_z (negsuc 0 -ℤ n) d ≡ floor n d
unfolding floor floor_nat
floor-below_zero (pos n) d h z = absurd (let x : ⊥ = omega lin in x)
floor-below_zero (negsuc n) (pos d) h z = ap (λ (x : ℤ). negsuc 0 -ℤ quot_z x (pos d)) (minus_one n) ∙ minus_one' (n / d)
floor-below_zero (negsuc n) (negsuc d) h z = absurd z.lt

pub floor-from_zero : (n d : ℤ) → pos 0 ≤ℤ n → pos 0 <ℤ d → quot_z n d ≡ floor n d
unfolding floor floor_nat
floor-from_zero (pos n) (pos d) h z = refl
floor-from_zero (negsuc n) d h z = absurd h.le
floor-from_zero (pos n) (negsuc d) h z = absurd z.lt

pub floor-magnitude : (n d : ℤ) → pos 0 <ℤ d → mag (floor n d) ≤ mag n
unfolding floor floor_nat
floor-magnitude (pos n) (pos d) z = div-le_self n d
floor-magnitude (negsuc n) (pos d) z = div-le_self n d
floor-magnitude n (negsuc d) z = absurd z.lt

-- both signs turned
pub floor-neg-neg : (n d : ℤ) → d <ℤ pos 0 → floor (neg_ℤ n) (neg_ℤ d) ≡ floor n d
unfolding floor
floor-neg-neg n (pos d) h = absurd (let x : ⊥ = omega lin in x)
floor-neg-neg n (negsuc d) h = refl

floor_nat-abs : (n : ℤ) (d : ℕ) → nat_abs (floor_nat n d) ≤ nat_abs n
unfolding floor_nat
floor_nat-abs (pos n) d = div-le_self n d
floor_nat-abs (negsuc n) d = omega (arith, div-le_self n d)

pub floor-abs : (n d : ℤ) → nat_abs (floor n d) ≤ nat_abs n
unfolding floor
floor-abs n (pos d) = floor_nat-abs n d
floor-abs n (negsuc d) = omega (arith, floor_nat-abs (neg_ℤ n) (suc d), abs_neg n)

-- ---- a common factor cancels
floor-below : (n d : ℤ) → pos 0 <ℤ d → (floor n d *ℤ d) ≤ℤ n
floor-below n d z = (floor-iff (floor n d) n d z).0 (≤ℤ_refl (floor n d))

module _ (n : ℤ) (d k : ℕ) (z : 0 < d) (y : 0 < k) where
  regroup : (q : ℤ) → q *ℤ pos (d * k) ≡ (q *ℤ pos d) *ℤ pos k
  regroup q = rw (is_diff q) (simp diffs (omega arith))

  pub floor-scaled : floor (n *ℤ pos k) (pos (d * k)) ≡ floor n (pos d)
  floor-scaled =
      ≤ℤ-antisym
      ((floor-iff _ n (pos d) (omega lin)).1 (*ℤ-cancel_≤ _ _ (pos k) (omega lin) (rw (regroup (floor (n *ℤ pos k) (pos (d * k)))) at (floor-below (n *ℤ pos k) (pos (d * k)) above))))
      ((floor-iff _ (n *ℤ pos k) (pos (d * k)) above).1 (rw (regroup (floor n (pos d))) (*ℤ-mono _ _ (pos k) (omega lin) (floor-below n (pos d) (omega lin)))))
    where
      above : pos 0 <ℤ pos (d * k)
      above = let h : 0 < d * k = mul-pos z y in omega lin

pub ceiling-scaled : (n : ℤ) (d k : ℕ) → 0 < d → 0 < k → ceiling (n *ℤ pos k) (pos (d * k)) ≡ ceiling n (pos d)
unfolding ceiling
ceiling-scaled n d k z y = rw (← neg_ℤ-*ℤ n (pos k)) (ap neg_ℤ (floor-scaled (neg_ℤ n) d k z y))

-- ---- a whole number of times d stands outside
module _ (q r : ℤ) (d : ℕ) (z : 0 < d) where
  under : (k : ℤ) → (k *ℤ pos d) ≤ℤ r → ((q +ℤ k) *ℤ pos d) ≤ℤ (q *ℤ pos d +ℤ r)
  under k = rw (is_diff q, is_diff r, is_diff k) (simp diffs (omega arith))

  over : (k : ℤ) → (k *ℤ pos d) ≤ℤ (q *ℤ pos d +ℤ r) → ((k -ℤ q) *ℤ pos d) ≤ℤ r
  over k = rw (is_diff q, is_diff r, is_diff k) (simp diffs (omega arith))

  pub floor-shifted : floor (q *ℤ pos d +ℤ r) (pos d) ≡ q +ℤ floor r (pos d)
  floor-shifted =
      ≤ℤ-antisym
      (let n : ℤ = floor (q *ℤ pos d +ℤ r) (pos d) in let h : (n -ℤ q) ≤ℤ floor r (pos d) = (floor-iff (n -ℤ q) r (pos d) (omega lin)).1 (over n (floor-below (q *ℤ pos d +ℤ r) (pos d) (omega lin))) in omega (lin, less n q, sum q (floor r (pos d))))
      ((floor-iff _ (q *ℤ pos d +ℤ r) (pos d) (omega lin)).1 (under (floor r (pos d)) (floor-below r (pos d) (omega lin))))

pub ceiling-shifted : (q r : ℤ) (d : ℕ) → 0 < d → ceiling (q *ℤ pos d +ℤ r) (pos d) ≡ q +ℤ ceiling r (pos d)
unfolding ceiling
ceiling-shifted q r d z = ap neg_ℤ (ap (λ (n : ℤ). floor n (pos d)) turned ∙ floor-shifted (neg_ℤ q) (neg_ℤ r) d z) ∙ back (floor (neg_ℤ r) (pos d))
  where
    turned : neg_ℤ (q *ℤ pos d +ℤ r) ≡ neg_ℤ q *ℤ pos d +ℤ neg_ℤ r
    turned = rw (is_diff q, is_diff r) (simp diffs (omega arith))

    back : (k : ℤ) → neg_ℤ (neg_ℤ q +ℤ k) ≡ q +ℤ neg_ℤ k
    back k = rw (is_diff q, is_diff k) (simp diffs (omega arith))
