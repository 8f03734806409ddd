-- Laws that no proof cites any more, and that stand: the nearest list of equally many steps, by the first step that fits, 13 for none.
use Rattle.std.specs.Prelude.{◌≡◌, Bool, true, false, List, [], ◌∷◌, ℕ, suc, ◌+◌, ◌-◌, ◌≤◌, ◌<◌, length}
use Rattle.std.proofs.Common.{sym, ap, arith}
use Rattle.series.specs.Steps.{after, Formed, Lower, here, there}
use Rattle.series.specs.Nearest.{Fits, Top, Least, Next, known_below, first_fits}

-- The first of the steps from a on that fits; 13 if none does.
pub record Found (k w r a d : ℕ) : Type 0 where
  pub from : a ≤ d
  pub to : d ≤ 13
  pub fits : d < 13 → Fits k w r d
  pub first : (f : ℕ) → a ≤ f → f < d → Fits k w r f → ⊥

-- a list whose first step is the first from a on that fits, and whose other steps are the lowest behind it
pub record Risen (k w a n : ℕ) (es : List ℕ) : Type 0 where
  pub step : ℕ
  pub behind : List ℕ
  pub is : es ≡ step ∷ behind
  pub low : step < 13
  pub found : Found k w (n - 1) a step
  pub least : Least k (after w step) (n - 1) behind

pub record Raised (k w a n : ℕ) (es : List ℕ) (r : Bool) : Type 0 where
  pub risen : r ≡ true → Risen k w a n es
  pub none : r ≡ false → Found k w (n - 1) a 13

-- what moving a list on tells
pub record Advanced (k w : ℕ) (ds es : List ℕ) (r : Bool) : Type 0 where
  pub moved : r ≡ true → Next k w ds es
  pub stood : r ≡ false → Top k w ds

module _ (k w d : ℕ) (ds : List ℕ) where
  -- the later steps are at their highest, and this one moves
  pub next_here : (e : ℕ) (es : List ℕ) → Top k (after w d) ds → e < 13 → Found k w (length ds) (d + 1) e → Least k (after w e) (length ds) es → Next k w (d ∷ ds) (e ∷ es)
  next_here e es t h f l =
      let i = f.fits h in
      let m : d < e = omega (arith, f.from) in
      record { formed = (i.known, i.enough, l.formed); higher = here m (sym l.long); nearest = go }
    where
      go : (fs : List ℕ) → Formed k w fs → Lower (d ∷ ds) fs → Lower fs (e ∷ es) → ⊥
      go [] g l z = elim l [ ]
      go (b ∷ fs) g (here p q) (here p' q') = f.first b (omega arith) p' (rw q (first_fits k w b fs g))
      go (b ∷ fs) g (here p q) (there p' q') = l.least fs (rw p' at g.2) q'
      go (b ∷ fs) g (there p q) z = t.none fs (rw (← p) at g.2) q

  pub top : (e : ℕ) → k ≤ 4 → Top k (after w d) ds → 13 ≤ e → Found k w (length ds) (d + 1) e → Top k w (d ∷ ds)
  top e m t h f = record { none = go }
    where
      go : (fs : List ℕ) → Formed k w fs → Lower (d ∷ ds) fs → ⊥
      go [] g l = elim l [ ]
      go (b ∷ fs) g (here p q) = f.first b (omega arith) (omega (arith, known_below m g.0)) (rw q (first_fits k w b fs g))
      go (b ∷ fs) g (there p q) = t.none fs (rw (← p) at g.2) q

pub least_more : (k w r d : ℕ) (ds : List ℕ) → Found k w r 0 d → d < 13 → Least k (after w d) r ds → Least k w (suc r) (d ∷ ds)
least_more k w r d ds f h l =
    let i = f.fits h in
    record { formed = (i.known, i.enough, l.formed); long = ap suc l.long; least = go }
  where
    go : (fs : List ℕ) → Formed k w fs → Lower fs (d ∷ ds) → ⊥
    go [] g l = elim l [ ]
    go (b ∷ fs) g (here p q) = f.first b (omega arith) p (rw (← l.long, ← q) (first_fits k w b fs g))
    go (b ∷ fs) g (there p q) = l.least fs (rw p at g.2) q
