-- Laws that no proof cites any more, and that stand: what each byte that a reader of digits looks at says, the digits counted down.
use Rattle.std.specs.Prelude.{◌≡◌, refl, ℕ, suc, ◌+◌, ◌-◌, ◌*◌, ◌^◌, ◌<◌, ◌≤◌, true, false, List, [], ◌∷◌, length, drop, slice_index, None}
use Rattle.std.proofs.Common.{sym, ap₂, ◌∙◌}
use Rattle.std.proofs.Math.Path.{ap}
use Rattle.std.proofs.Math.Nat.{pow-suc, pow-le-pow_right}
use native.Mathlib.Omega.{arith}
use Rattle.text.specs.declared.Found.{Found}
use Rattle.decimal.specs.Digits.{is_digit, number, number_behind, front_digits}
use Rattle.decimal.specs.DigitLaws.{digit_bounds}
use Rattle.text.specs.Answer.{found}
use Rattle.text.specs.EndLaws.{seven_places}
use Rattle.text.specs.Form.{scaled}
use Rattle.text.specs.Ended.{Ended, digit_next}
use Rattle.text.specs.Parts.{ReadDigits, part_answer, size_answer}
use Rattle.text.proofs.ReadLaws as laws
use Rattle.text.proofs.ReadLaws.{front_digit, front_none}

-- at most six more digits, of which `left` may still come

pub record Reading (s : List ℕ) (first at value next left : ℕ) : Type 0 where
  pub within : left ≤ 6
  pub inside : next < length s
  pub small : value < 10 ^ (7 - left)
  pub rest_number : number_behind value (front_digits left (drop next s)) ≡ number_behind first (front_digits 6 (drop at s))
  pub rest_length : next + length (front_digits left (drop next s)) ≡ at + length (front_digits 6 (drop at s))

pub reading_start : (s : List ℕ) (first at : ℕ) → at < length s → first < 10 → Reading s first at first at 6
reading_start s first at h f = record { within = omega arith; inside = h; small = f; rest_number = refl; rest_length = refl }

module _ {s : List ℕ} {first at value next left : ℕ} (w : Reading s first at value next left) where
  pub reading_value : 0 < left → value < 1000000
  reading_value h =
      let p : 10 ^ (7 - left) ≤ 10 ^ 6 = pow-le-pow_right (omega arith) {i = 7 - left} {j = 6} (omega (arith, w.within)) in
      omega (arith, w.small)

  pub reading_next : Ended s → 0 < left → (d : ℕ) → is_digit (slice_index s next) ≡ true → d ≡ slice_index s next - 48 → Reading s first at (value * 10 + d) (next + 1) (left - 1)
  unfolding number_behind
  reading_next e h d p q =
      let k : left ≡ suc (left - 1) = omega arith in
      let n : 7 - (left - 1) ≡ suc (7 - left) = omega (arith, w.within) in
      let f : front_digits left (drop next s) ≡ slice_index s next ∷ front_digits (left - 1) (drop (next + 1) s) =
      ap (λ m. front_digits m (drop next s)) k ∙ front_digit s (left - 1) next w.inside p in
      let b = digit_bounds (slice_index s next) p in
      record {
        within = omega (arith, w.within);
        inside = digit_next e next w.inside p;
        small = rw n (omega (arith, pow-suc 10 (7 - left), w.small));
        rest_number = ap (λ x. number_behind (value * 10 + x) (front_digits (left - 1) (drop (next + 1) s))) q ∙ ap (number_behind value) (sym f) ∙ w.rest_number;
        rest_length = omega (arith, ap length f, w.rest_length);
      }

  pub stopped : (r : Found ℕ) → r.value ≡ value → r.next ≡ next → front_digits left (drop next s) ≡ [] → ReadDigits first at (front_digits 6 (drop at s)) r
  unfolding number_behind
  stopped r v n f = record {
    value_is = v ∙ ap (number_behind value) (sym f) ∙ w.rest_number;
    next_is = n ∙ omega (arith, ap length f, w.rest_length);
  }

  pub reading_stop : (r : Found ℕ) → r.value ≡ value → r.next ≡ next → is_digit (slice_index s next) ≡ false → ReadDigits first at (front_digits 6 (drop at s)) r
  reading_stop r v n e = stopped r v n (front_none s left next w.inside e)

  pub reading_full : (r : Found ℕ) → r.value ≡ value → r.next ≡ next → left ≡ 0 → ReadDigits first at (front_digits 6 (drop at s)) r
  unfolding front_digits
  reading_full r v n e = stopped r v n (ap (λ m. front_digits m (drop next s)) e)

-- the digits behind the point

module _ (s : List ℕ) (v at : ℕ) (h : at < length s) where
  pub part_none : is_digit (slice_index s at) ≡ false → None ≡ part_answer v (drop at s) at
  unfolding part_answer
  part_none a = rw (front_none s 3 at h a)

  module _ (a : is_digit (slice_index s at) ≡ true) (h2 : at + 1 < length s) where
    pub part_one : is_digit (slice_index s (at + 1)) ≡ false → (n next : ℕ) → n ≡ v * 1000 + (slice_index s at - 48) * 100 → next ≡ at + 1 → found n next ≡ part_answer v (drop at s) at
    unfolding part_answer scaled number number_behind
    part_one b n next e f = rw (front_digit s 2 at h a, front_none s 2 (at + 1) h2 b) (ap₂ found (e ∙ omega arith) f)

    module _ (b : is_digit (slice_index s (at + 1)) ≡ true) (h3 : at + 1 + 1 < length s) where
      pub part_two : is_digit (slice_index s (at + 1 + 1)) ≡ false → (n next : ℕ) → n ≡ v * 1000 + ((slice_index s at - 48) * 10 + (slice_index s (at + 1) - 48)) * 10 → next ≡ at + 2
          → found n next ≡ part_answer v (drop at s) at
      unfolding part_answer scaled number number_behind
      part_two c n next e f = rw (front_digit s 2 at h a, front_digit s 1 (at + 1) h2 b, front_none s 1 (at + 1 + 1) h3 c) (ap₂ found (e ∙ omega arith) f)

      pub part_three : is_digit (slice_index s (at + 1 + 1)) ≡ true → (n next : ℕ)
          → n ≡ v * 1000 + ((slice_index s at - 48) * 100 + (slice_index s (at + 1) - 48) * 10 + (slice_index s (at + 1 + 1) - 48)) → next ≡ at + 3
          → found n next ≡ part_answer v (drop at s) at
      unfolding part_answer scaled number number_behind front_digits
      part_three c n next e f =
          rw (front_digit s 2 at h a, front_digit s 1 (at + 1) h2 b, front_digit s 0 (at + 1 + 1) h3 c)
          (ap₂ found (e ∙ omega arith) f)

-- the size, from the whole part, the point and what is behind it

pub size_found_lt : (t : List ℕ) (at n next : ℕ) → found n next ≡ size_answer t at → n < seven_places
size_found_lt t at n next e = laws.size_found_lt t at (record { value = n; next = next }) e
