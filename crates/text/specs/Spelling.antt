-- 02's Q-2: "each pair has one written text, .. and several other texts may read as it too". Which they are: the end's text, or that text with
-- zeros at the end of its fraction left out, and the point with the last of them.
use Rattle.std.specs.Prelude.{◌≡◌, ℕ, zero, suc, ◌-◌, ◌/◌, ◌%◌, ◌≤◌, false, List, [], ◌∷◌, ◌++◌, length, ℤ, pos, int_lt, nat_eq, unsigned_abs}
use Rattle.decimal.specs.Digits.{is_digit, digits, decimal}
use Rattle.text.specs.Text.{point, sign_text}

-- the digits of a fraction with the point in front, if there are any
abbrev pub frac : List ℕ → List ℕ
frac [] = []
frac (x ∷ g) = point ∷ (x ∷ g)

abbrev pub zeros : ℕ → List ℕ
zeros zero = []
zeros (suc k) = 48 ∷ zeros k

-- s spells n thousandths
pub record Spells (n : ℕ) (s : List ℕ) : Type 0 where
  pub part : List ℕ
  pub short : length part ≤ 3
  pub padded : part ++ zeros (3 - length part) ≡ digits 3 (n % 1000)
  pub spelled : s ≡ decimal (n / 1000) ++ frac part

-- s spells the end z
pub record SpellsEnd (z : ℤ) (s : List ℕ) : Type 0 where
  pub rest : List ℕ
  pub spells : Spells (unsigned_abs z) rest
  pub signs : s ≡ sign_text (int_lt z (pos 0)) ++ rest

-- what a byte behind an end is not
pub record Mark (b : ℕ) : Type 0 where
  pub no_digit : is_digit b ≡ false
  pub no_point : nat_eq b point ≡ false
