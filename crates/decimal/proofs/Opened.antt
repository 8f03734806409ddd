-- What the attributes of the functions name: laws of digits and places, with tests as premises.
use Rattle.std.specs.Prelude.{◌≡◌, refl, true, false, List, [], ◌∷◌, ◌++◌, ℕ, zero, suc, ◌+◌, ◌-◌, ◌*◌, ◌/◌, ◌%◌, ◌≤◌, ◌<◌, ◌^◌, leb, length, set, max}
use Rattle.std.proofs.Common.{sym, ap, ◌∙◌, arith, append_assoc, length-append, take, drop-drop, le-leb}
use borrow.Rule.Slice.PartMut.{put_mid}
use Rattle.std.proofs.lemmas.Bool.{lt-leb}
use Rattle.std.proofs.Math.Nat.{pow-le-pow_right}
use Rattle.std.proofs.Math.Decide.{dec_lt}
use Rattle.decimal.specs.Digits.{digits, width, ten_million}
use Rattle.decimal.specs.DigitLaws.{has_width, width_is, width-le, decimal-at, digits-length, decimal-length, digits-split, tens_add}
use Rattle.decimal.specs.Place.{place, placement, put}
use Rattle.decimal.specs.PlaceLaws.{put_byte}

-- ---- digits
-- by the whole logarithm
pub width_log : (n k : ℕ) → 10 ^ k ≤ max n 1 → max n 1 < 10 * 10 ^ k → k + 1 ≡ width n
width_log n k a b =
    let e : k + 1 - 1 ≡ k = omega arith in
    width_is n (k + 1) (record { some = omega arith; enough = omega (arith, tens_add k 1); needed = rw e a })

one_more : (k : ℕ) → 1 ≤ k → 10 ^ k ≡ 10 ^ (k - 1) * 10
one_more k o = let e : k - 1 + 1 ≡ k = omega arith in ap (λ i. 10 ^ i) (sym e) ∙ tens_add (k - 1) 1

-- a number of 32 bits
pub width_ten : (n : ℕ) → n < 4294967296 → width n ≤ 10
width_ten n h = width-le n 10 (omega arith) (omega arith)

pub width_some : (n : ℕ) → 1 ≤ width n
width_some n = (has_width n).some

pub ruleset widths = (width_some, width_ten)

pub within_width : (n k : ℕ) → 1 ≤ k → n < 10 ^ (k - 1) * 10 → leb (width n) k ≡ true
within_width n k o h = le-leb (width n) k (width-le n k o (omega (arith, one_more k o)))

pub beyond_width : (n k : ℕ) → 1 ≤ k → 10 ^ (k - 1) * 10 ≤ n → leb (width n) k ≡ false
beyond_width n k o h = lt-leb (width n) k (go (dec_lt k (width n)))
  where
    go : Dec (k < width n) → k < width n
    go (yes p) = p
    go (no p) =
        let e : 10 ^ width n ≤ 10 ^ k = pow-le-pow_right (omega arith) (omega arith) in
        absurd (omega (arith, (has_width n).enough, one_more k o))

-- ten times an entry of the table is a number of 32 bits
pub table_tens : (k : ℕ) → k < 7 → 10 ^ k ≤ 1000000
table_tens k h = pow-le-pow_right (omega arith) {i = k} {j = 6} (omega arith)

pub ruleset enough = (within_width, beyond_width, table_tens)

pub ruleset all_digits = (decimal-at)

-- the last two of k, from n % 100; below 100, 103 / 1024 stands for a tenth
tens : (n : ℕ) → n % 100 * 103 / 1024 ≡ n / 10 % 10
tens n = tenth (n % 100) (omega arith) ∙ omega arith
  where
    tenth : (x : ℕ) → x < 100 → x * 103 / 1024 ≡ x / 10
    tenth x h = omega arith

units : (n : ℕ) → n % 100 - n % 100 * 103 / 1024 * 10 ≡ n % 10
units n = rw (tens n) (omega arith)

pub figures_none : (f : List ℕ) (n : ℕ) → length f < 1 → f ≡ digits (length f) n
unfolding digits
figures_none [] n h = refl
figures_none (x ∷ f) n h = absurd (omega arith)

pub figures_one : (f : List ℕ) (n : ℕ) → 1 ≤ length f → length f < 2 → set f 0 (48 + n % 10) ≡ digits (length f) n
unfolding digits
figures_one [] n h k = absurd (omega arith)
figures_one (x ∷ []) n h k = refl
figures_one (x ∷ y ∷ f) n h k = absurd (omega arith)

pub figures_two : (k n : ℕ) → 2 ≤ k → digits k n ≡ digits (k - 2) (n / 100) ++ (48 + n % 100 * 103 / 1024) ∷ (48 + (n % 100 - n % 100 * 103 / 1024 * 10)) ∷ []
unfolding digits
figures_two zero n h = absurd (omega arith)
figures_two (suc zero) n h = absurd (omega arith)
figures_two (suc (suc k)) n h =
    let p : suc (suc k) - 2 ≡ k = omega arith in
    let q : n / 100 ≡ n / 10 / 10 = omega arith in
    rw (p, q, units n, tens n) (append_assoc (digits k (n / 10 / 10)) ((48 + n / 10 % 10) ∷ []) ((48 + n % 10) ∷ []))

pub ruleset figures = (figures_none, figures_one, figures_two)

-- all of one place
pub only : (p : List ℕ) (b : ℕ) → length p ≡ 1 → set p 0 b ≡ b ∷ []
only [] b h = absurd (omega arith)
only (x ∷ []) b h = refl
only (x ∷ y ∷ p) b h = absurd (omega arith)

-- with seven digits more
pub figures_seven : (k n : ℕ) → 7 ≤ k → digits k n ≡ digits (k - 7) (n / ten_million) ++ digits 7 (n % ten_million)
figures_seven k n h =
    let e : k - 7 + 7 ≡ k = omega arith in
    ap (λ i. digits i n) (sym e) ∙ digits-split (k - 7) n

pub without_seven : (k n : ℕ) → 7 ≤ k → n < 10 ^ k → n / ten_million < 10 ^ (k - 7)
without_seven k n h l =
    let e : k - 7 + 7 ≡ k = omega arith in
    omega (arith, ap (λ i. 10 ^ i) (sym e) ∙ tens_add (k - 7) 7)

pub ruleset sevens = (figures_seven, without_seven)

-- ---- what a writer answers, from its room
pub place_room : (t : List ℕ) (at : ℕ) (d : List ℕ) → at + length t ≤ length d → place t at d ≡ placement (at + length t) (put t at d)
unfolding place
place_room t at d h = rw (le-leb (at + length t) (length d) h)

pub place_none : (t : List ℕ) (at : ℕ) (d : List ℕ) → length d < at + length t → place t at d ≡ placement at d
unfolding place
place_none t at d h = rw (lt-leb (at + length t) (length d) h)

pub pointed_length : (k m p : ℕ) → length (digits k m ++ (46 ∷ digits 3 p)) ≡ k + 4
pointed_length k m p = omega (arith, length-append (digits k m) (46 ∷ digits 3 p), digits-length k m, digits-length 3 p)

-- a part of the buffer that was lent, and came back as t
pub put_part : (at k : ℕ) (d t : List ℕ) → k ≡ length t → put_mid at k d t ≡ put t at d
unfolding put
put_part at k d t h = rw h (ap (λ l. take at d ++ (t ++ l)) (drop-drop (length t) at d))

pub ruleset placing = (place_room, place_none, put_byte, put_part, digits-length, decimal-length, pointed_length)
