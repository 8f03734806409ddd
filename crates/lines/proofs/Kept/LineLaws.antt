-- Laws that no proof cites any more, and that stand: of bytes without byte 10, as a test of them.
use Rattle.std.specs.Prelude.{◌≡◌, refl, Bool, true, false, cond, List, [], ◌∷◌, ◌++◌, ℕ, ◌≤◌, eqb, length}
use Rattle.std.proofs.Common.{arith, ne_eqb}
use Rattle.std.proofs.lemmas.Bool.{eqb-false}
use Rattle.std.proofs.lemmas.List.Elements.{All-nil, All-cons, All-head, All-tail}
use Rattle.lines.specs.Absent.{absent}
use Rattle.lines.specs.Feed.{IsNoEnd, Unbroken, ended_lines, open_behind, open_line, last_line, closed, kept_most}
use Rattle.lines.proofs.LineLaws as laws
use Rattle.lines.proofs.LineLaws.{prepend, Clipped}

-- the test and what it tells
pub unbroken : (s : List ℕ) → absent 10 s ≡ true → Unbroken s
unbroken [] h = All-nil IsNoEnd
unbroken (b ∷ s) h = go (eqb b 10) refl h (unbroken s)
  where
    go : (x : Bool) → eqb b 10 ≡ x → cond x false (absent 10 s) ≡ true → (absent 10 s ≡ true → Unbroken s) → Unbroken (b ∷ s)
    go true e h f = let z : ◌≡◌ {A = ℕ} 0 1 = cc in absurd (omega arith)
    go false e h f = All-cons IsNoEnd b s (eqb-false b 10 e) (f h)

pub unbroken_absent : (s : List ℕ) → Unbroken s → absent 10 s ≡ true
unbroken_absent [] u = refl
unbroken_absent (b ∷ s) u = rw (ne_eqb b 10 (All-head IsNoEnd b s u)) (unbroken_absent s (All-tail IsNoEnd b s u))

-- the open line has no byte 10
pub open_absent : (s : List ℕ) → absent 10 (open_line s) ≡ true
open_absent s = unbroken_absent (open_line s) (laws.open_unbroken s)

pub ended_front : (p t : List ℕ) → absent 10 p ≡ true
    → (ended_lines (p ++ t) ≡ prepend p (ended_lines t)) × (open_line (p ++ t) ≡ open_behind p (ended_lines t) (open_line t))
ended_front p t f = laws.ended_front p t (unbroken p f)

-- the byte that the input did not have ends the open line
pub closed-lines : (p : List ℕ) → absent 10 p ≡ true → ended_lines (closed p) ≡ last_line p
closed-lines p h = laws.closed-lines p (unbroken p h)

module _ (k : ℕ) (p : List ℕ) where
  pub clip_long : (t : List ℕ) → absent 10 p ≡ true → kept_most ≤ length p → Clipped k p t
  clip_long t a h = laws.clip_long k p t (unbroken p a) h

  pub clipped : (t : List ℕ) → absent 10 p ≡ true → Clipped k p t
  clipped t a = laws.clipped k p t (unbroken p a)
