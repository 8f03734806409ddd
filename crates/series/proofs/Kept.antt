-- Laws that no proof cites any more, and that stand.
use Rattle.std.specs.Prelude.{◌≡◌, refl, Bool, true, false, List, [], ◌∷◌, ◌++◌, ℕ, ◌+◌, ◌-◌, ◌≤◌, ◌<◌, ◌↔◌, ltb, leb, length, take}
use Rattle.std.proofs.Common.{sym, ◌∙◌, arith, true≢false, ltb-true, ltb-false, take_at, le-leb}
use Rattle.decimal.specs.Place.{Placed}
use Rattle.decimal.specs.PlaceLaws.{placed_fitting, put_front}
use Rattle.series.specs.Steps.{Known, constant, code, takes, Formed, Lower, bytes_of}
use Rattle.series.specs.Bytes.{as_constant, as_code}
use Rattle.series.specs.Nearest.{Fits, Least, Top, takes_0_to_3, takes_4_to_6, takes_7_to_9, takes_10_to_12, takes_beyond}
use Rattle.series.specs.Nearest as nearest
use Rattle.series.specs.Series.{found, listed, effect, effect_of}
pub mod Bytes
pub mod Nearest
pub mod Generator

-- ---- the table of the steps
pub constant_takes : (d : ℕ) → d < 4 → takes d ≡ 0
constant_takes d h = takes_0_to_3 d (omega arith)

module _ (d : ℕ) where
  pub takes-constant : d < 4 → 0 ≡ takes d
  takes-constant h = sym (takes_0_to_3 d (omega arith))

  pub takes_low : 4 ≤ d → d < 7 → 2 ≡ takes d
  takes_low h i = sym (takes_4_to_6 d h (omega arith))

  pub takes-middle : 7 ≤ d → d < 10 → 1 ≡ takes d
  takes-middle h i = sym (takes_7_to_9 d h (omega arith))

  pub takes-high : 10 ≤ d → d < 13 → 2 ≡ takes d
  takes-high h i = sym (takes_10_to_12 d h (omega arith))

  pub takes-beyond : 13 ≤ d → 0 ≡ takes d
  takes-beyond h = sym (takes_beyond d h)

pub no_constant : (k d : ℕ) → k ≤ d → d < 4 → Known k d → ⊥
no_constant k d h l (constant a) = omega arith
no_constant k d h l (code a b) = omega arith

-- ---- what a test tells
pub record Decides (r : Bool) (P : Type 0) : Type 0 where
  pub yes_if : r ≡ true → P
  pub not_if : r ≡ false → P → ⊥

pub refused : (P : Type 0) → (P → ⊥) → Decides false P
refused P n = record { yes_if = λ e. let z : ◌≡◌ {A = ℕ} 0 1 = cc in absurd (omega arith); not_if = λ e. n }

pub decides : {r : Bool} {P : Type 0} → (r ≡ true) ↔ P → Decides r P
decides w = record { yes_if = w.0; not_if = λ e p. true≢false (sym (w.1 p) ∙ e) }

pub tested : (k w r d : ℕ) → Known k d → takes d ≤ w → Decides (leb (w - takes d) r) (Fits k w r d)
tested k w r d u t = decides (nearest.tested k w r d (takes d) refl u t)

pub one_more : (P : ℕ → Type 0) (a d : ℕ) → ((f : ℕ) → a ≤ f → f < d → P f → ⊥) → (P d → ⊥) → (f : ℕ) → a ≤ f → f < d + 1 → P f → ⊥
one_more P a d h n f i j p = go (ltb f d) refl
  where
    go : (b : Bool) → ltb f d ≡ b → ⊥
    go true e = h f i (ltb-true f d e) p
    go false e = let q : f ≡ d = omega (arith, ltb-false f d e) in n (rw q at p)

-- ---- the lowest list, the next and the last, by the first step that fits
pub top_none : (k w : ℕ) → Top k w []
top_none k w = record { none = go }
  where
    go : (fs : List ℕ) → Formed k w fs → Lower [] fs → ⊥
    go [] g l = elim l [ ]
    go (f ∷ fs) g l = elim l [ ]

pub least_none : (k : ℕ) → Least k 1 0 []
least_none k = record { formed = refl; long = refl; least = go }
  where
    go : (fs : List ℕ) → Formed k 1 fs → Lower fs [] → ⊥
    go [] g l = elim l [ ]
    go (f ∷ fs) g l = elim l [ ]

-- ---- what a step leaves at the front of its bytes
pub data Front (k d x : ℕ) (b : List ℕ) : Type 0 where
  at_constant : d < k → x ≡ 0 → (c : List ℕ) → b ≡ d ∷ c → Front k d x b
  at_code : 4 ≤ d → d < 13 → x ≡ d - 3 → Front k d x b

pub front : (k d x : ℕ) (b c : List ℕ) → k ≤ 4 → Known k d → bytes_of d ++ c ≡ x ∷ b → Front k d x b
front k d x b c m (constant a) e =
    let q : 0 ∷ d ∷ c ≡ x ∷ b = rw (as_constant d (omega arith)) at e in
    let o : x ≡ 0 = cc in
    let r : b ≡ d ∷ c = cc in
    at_constant a o c r
front k d x b c m (code a z) e =
    let q : (d - 3) ∷ c ≡ x ∷ b = rw (as_code d a) at e in
    let o : x ≡ d - 3 = cc in
    at_code a z o

-- the bytes t that stand at the front of a buffer of zeros go to the front of d
pub put_room : (t d z : List ℕ) {n i : ℕ} {l : List ℕ} → n ≡ length t → n ≤ length d → Placed (take n (t ++ z)) 0 d i l → effect (listed n) l ≡ effect_of (found t) d
unfolding effect_of
put_room t d z {l = l} e h p =
    let u : take (length t) (t ++ z) ≡ t = take_at t z (length t) refl in
    let w : Placed t 0 d _ l = rw (e, u) at p in
    rw (e, le-leb (length t) (length d) (rw e at h), (placed_fitting w (omega arith)).buffer_is ∙ put_front t d)
