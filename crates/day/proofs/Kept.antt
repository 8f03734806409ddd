-- A law that no proof cites any more, and that stands.
use Rattle.std.specs.Prelude.{List, [], ◌∷◌, ◌++◌, ℕ, ◌≤◌, ◌<◌, ◌^◌, length}
use Rattle.std.proofs.Common.{arith}
use Rattle.std.proofs.Math.ListN.{length-append}
use Rattle.decimal.specs.Digits.{decimal}
use Rattle.decimal.specs.Place.{Placed}
use Rattle.decimal.specs.PlaceLaws.{Wrote, placed_fitting, fitting_then}
use Rattle.directed.specs.Located.{refusal}
use Rattle.day.specs.File.{line}
use Rattle.day.specs.LineLaws.{number_short}

module _ {d d₁ d₂ d₃ d₄ : List ℕ} {i j k m : ℕ} (room : 64 ≤ length d) where
  pub refusal-wrote : {d₅ : List ℕ} {e : ℕ} (n place : ℕ) → n < 2 ^ 32 → place < 2 ^ 32
      → Placed (82 ∷ 32 ∷ []) 0 d i d₁ → Placed (decimal n) i d₁ j d₂ → Placed (32 ∷ []) j d₂ k d₃ → Placed (decimal place) k d₃ m d₄ → Placed (10 ∷ []) m d₄ e d₅
      → Wrote (line (refusal n place)) 0 d e d₅
  unfolding line
  refusal-wrote n place h f p q r s t =
      fitting_then (placed_fitting p) (fitting_then (placed_fitting q) (fitting_then (placed_fitting r) (fitting_then (placed_fitting s) (placed_fitting t))))
      (omega (arith, length-append (decimal n) (32 ∷ (decimal place ++ (10 ∷ []))), length-append (decimal place) (10 ∷ []), number_short n h, number_short place f))
