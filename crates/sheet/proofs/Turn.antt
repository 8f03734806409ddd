-- One turn of the loop over the trays: the first four of the ends that are left are the tray that stands where the loop is.
use Rattle.std.specs.Prelude.{false, true, List, ◌++◌, ◌≡◌, ℕ, ◌+◌, ◌-◌, ◌%◌, ◌≤◌, ◌<◌, ℤ, pos, nat_abs, length, drop, get_or}
use Rattle.std.proofs.Common.{◌∙◌, sym, ap, ap₂, arith, length-append, length-drop, get_or-drop, drop-drop}
use Rattle.std.proofs.Math.ListN.{get_or-append}
use Rattle.std.proofs.Math.Seq.{drop-append_seam}
use Rattle.integers.specs.Sizes.{product_bound}
use Rattle.directed.specs.Answer.{cause, given}
use Rattle.directed.specs.Thousandths.{Pair, pair, beyond_range}
use Rattle.directed.specs.declared.Ends.{Ends}
use Rattle.sheet.specs.Sheet.{trays, operands}
use Rattle.sheet.specs.Millionths.{product_of}
use Rattle.sheet.specs.Running.{Running, plus, pair_at, tray_at, running_mass, running_count, running_more}
use Rattle.sheet.specs.declared.sum.Part.{Part}

-- how many ends the loop has passed
abbrev pub passed : List ℤ → List ℤ → ℕ
passed s rest = length s - length rest

-- at the end nothing is left
pub all_passed : (s rest : List ℤ) → rest ≡ drop (passed s rest) s → passed s rest % 4 ≡ 0 → length s % 4 ≡ 0 → length rest < 4 → length s ≤ passed s rest
all_passed s rest e f g h = omega (arith, short)
  where
    short : length rest ≡ length s - passed s rest
    short = ap length e ∙ length-drop (passed s rest) s

module _ (s rest tray left : List ℤ) (e : rest ≡ drop (passed s rest) s) (cut : rest ≡ tray ++ left) (four : length tray ≡ 4) where
  long : length rest ≡ 4 + length left
  long = ap length cut ∙ length-append tray left ∙ ap (λ n. n + length left) four

  short : length rest ≡ length s - passed s rest
  short = ap length e ∙ length-drop (passed s rest) s

  pub placed : passed s rest + 4 ≤ length s
  placed = omega (arith, long, short)

  pub next : passed s left ≡ passed s rest + 4
  next = omega (arith, long, short)

  pub left_is : left ≡ drop (passed s left) s
  left_is = sym (ap (λ n. drop n s) next ∙ sym (drop-drop 4 (passed s rest) s) ∙ ap (drop 4) (sym e ∙ cut) ∙ ap (λ n. drop n (tray ++ left)) (sym four) ∙ drop-append_seam tray left)

  end_is : (k : ℕ) → k < 4 → get_or s (passed s rest + k) (pos 0) ≡ get_or tray k (pos 0)
  end_is k h = sym (get_or-drop (passed s rest) s k (pos 0)) ∙ ap (λ l. get_or l k (pos 0)) (sym e ∙ cut) ∙ get_or-append tray left (pos 0) k (omega (arith, four))

  tray_is : tray_at s (passed s rest) ≡ tray_at tray 0
  tray_is =
      ap₂ (λ (m n : Pair). record { mass = m; count = n })
      (ap₂ pair (ap (λ n. get_or s n (pos 0)) (omega arith) ∙ end_is 0 (omega arith)) (end_is 1 (omega arith)))
      (ap₂ pair (end_is 2 (omega arith)) (ap (λ n. get_or s n (pos 0)) (omega arith) ∙ end_is 3 (omega arith)))

  module _ (x : Ends Part) (g : Running s x (passed s rest)) where
    pub turn_mass : beyond_range (pair_at tray 0) ≡ true → given (operands (trays s)) ≡ cause 2
    turn_mass m = running_mass s x (passed s rest) g placed (ap (λ t. beyond_range t.mass) tray_is ∙ m)

    pub turn_count : beyond_range (pair_at tray 0) ≡ false → beyond_range (pair_at tray 2) ≡ true → given (operands (trays s)) ≡ cause 2
    turn_count m n = running_count s x (passed s rest) g placed (ap (λ t. beyond_range t.mass) tray_is ∙ m) (ap (λ t. beyond_range t.count) tray_is ∙ n)

    pub turn_more : (p : Ends ℤ) → beyond_range (pair_at tray 0) ≡ false → beyond_range (pair_at tray 2) ≡ false → p ≡ product_of (tray_at tray 0)
        → nat_abs p.lower ≤ product_bound → nat_abs p.upper ≤ product_bound → Running s (plus x p) (passed s left)
    turn_more p m n is l u =
        rw next
        (running_more s x (passed s rest) g placed p (ap (λ t. beyond_range t.mass) tray_is ∙ m) (ap (λ t. beyond_range t.count) tray_is ∙ n) (is ∙ ap product_of (sym tray_is)) l u)
