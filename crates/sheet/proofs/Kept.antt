-- Laws that no proof cites any more, and that stand: the running sum's first state and its next, number by number.
use Rattle.std.specs.Prelude.{◌≡◌, false, ℕ, ◌+◌, ◌≤◌, List, length, ℤ, pos}
use Rattle.directed.specs.Thousandths.{beyond_range}
use Rattle.directed.specs.declared.Ends.{Ends}
use Rattle.arithmetic.proofs.Kept.{Sized}
use Rattle.sheet.specs.Millionths.{product_of}
use Rattle.sheet.specs.declared.sum.Part.{Part}
use Rattle.sheet.specs.Running as running
use Rattle.sheet.specs.Running.{pair_at, tray_at, plus, Running}

abbrev pub sum_of_four : ℤ → ℤ → ℤ → ℤ → Ends Part
sum_of_four lower lower_rest upper upper_rest = record { lower = record { thousandths = lower; rest = lower_rest }; upper = record { thousandths = upper; rest = upper_rest } }

module _ (s : List ℤ) where
  pub running_start : Running s (sum_of_four (pos 0) (pos 0) (pos 0) (pos 0)) 0
  running_start = running.running_start s

  module _ (x : Ends Part) (i : ℕ) (g : Running s x i) (h : i + 4 ≤ length s) where
    pub running_more : (p : Ends ℤ) → beyond_range (pair_at s i) ≡ false → beyond_range (pair_at s (i + 2)) ≡ false → p ≡ product_of (tray_at s i) → Sized p → Running s (plus x p) (i + 4)
    running_more p e f is sized = running.running_more s x i g h p e f is sized.low sized.high
