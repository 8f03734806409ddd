-- Laws that no proof cites any more, and that stand: a list put together in a buffer, of the bytes of all constants in one text.
use Rattle.std.specs.Prelude.{◌≡◌, refl, Bool, true, false, cond, List, [], ◌∷◌, ◌++◌, ℕ, suc, ◌+◌, ◌*◌, ◌≤◌, ◌<◌, leb, eqb, length, take, drop, get_or, if◌then◌else◌}
use Rattle.std.proofs.Common.{sym, ap, ◌∙◌, arith, append_assoc, length-append, length-take, drop-cons, drop_of_length-le, le-leb}
use Rattle.std.proofs.lemmas.Bool.{lt-leb}
use Rattle.std.proofs.lemmas.List.{append-nil}
use Rattle.decimal.specs.Place.{Placed}
use Rattle.decimal.specs.PlaceLaws.{Fitting, fitting_as, fitting_nil, fitting_then, placed_fitting}
use Rattle.burnin.specs.Lists.{expanded, expanded-code, expanded-constant}

-- the 8 bytes of the constant at a position; none where there is no such constant
unfoldable pub eight : List ℕ → ℕ → List ℕ
eight c p = if leb (p * 8 + 8) (length c) then take 8 (drop (p * 8) c) else []

-- ---- how long
eight-length : (c : List ℕ) (p : ℕ) → length (eight c p) ≤ 8
unfolding eight
eight-length c p = go (leb (p * 8 + 8) (length c))
  where
    go : (b : Bool) → length (cond b (take 8 (drop (p * 8) c)) []) ≤ 8
    go true = rw (length-take 8 (drop (p * 8) c)) (omega arith)
    go false = omega arith

expanded-length : (c b : List ℕ) → length (expanded (eight c) b) ≤ 5 * length b
unfolding expanded
expanded-length c [] = omega arith
expanded-length c (x ∷ []) = omega arith
expanded-length c (x ∷ p ∷ b) = go (eqb x 0) (expanded-length c b) (expanded-length c (p ∷ b))
  where
    go : (t : Bool) → length (expanded (eight c) b) ≤ 5 * length b → length (expanded (eight c) (p ∷ b)) ≤ 5 * length (p ∷ b)
        → length (cond t (x ∷ (eight c p ++ expanded (eight c) b)) (x ∷ expanded (eight c) (p ∷ b))) ≤ 5 * length (x ∷ p ∷ b)
    go true i j = omega (arith, length-append (eight c p) (expanded (eight c) b), eight-length c p)
    go false i j = omega arith

pub expanded-room : (c b : List ℕ) → length b ≤ 10 → length (expanded (eight c) b) ≤ 64
expanded-room c b h = omega (arith, expanded-length c b)

-- ---- the bytes of one constant
module _ (c d : List ℕ) (p at : ℕ) where
  pub eight-absent : length c < p * 8 + 8 → Fitting (eight c p) at d at d
  unfolding eight
  eight-absent h = rw (lt-leb (p * 8 + 8) (length c) h) fitting_nil

  pub eight-there : {i n : ℕ} {l : List ℕ} → n ≡ 8 → p * 8 + 8 ≤ length c → Placed (take n (drop (p * 8) c)) at d i l → Fitting (eight c p) at d i l
  unfolding eight
  eight-there e h w = rw (le-leb (p * 8 + 8) (length c) h) (placed_fitting (rw e at w))

-- ---- the loop: the text that is put, and what is left
pub record Filled (c list d : List ℕ) (i next : ℕ) (l : List ℕ) : Type 0 where
  pub to : i ≤ length list
  pub text : List ℕ
  pub whole : expanded (eight c) list ≡ text ++ expanded (eight c) (drop i list)
  pub fits : Fitting text 0 d next l

pub filled_start : (c list d : List ℕ) → Filled c list d 0 0 d
filled_start c list d = record { to = omega arith; text = []; whole = refl; fits = fitting_nil }

module _ {c list d l : List ℕ} {i next : ℕ} (g : Filled c list d i next l) where
  -- u more bytes were put, and j bytes of the list were taken
  grown : {m : ℕ} {l' : List ℕ} (u : List ℕ) (j : ℕ) → j ≤ length list → Fitting u next l m l' → expanded (eight c) (drop i list) ≡ u ++ expanded (eight c) (drop j list) → Filled c list d j m l'
  grown u j h f e = record { to = h; text = g.text ++ u; whole = g.whole ∙ ap (λ x. g.text ++ x) e ∙ sym (append_assoc g.text u (expanded (eight c) (drop j list))); fits = fitting_then g.fits f }

  pub filled_code : {m : ℕ} {l' : List ℕ} → i < length list → (get_or list i 0 ≡ 0 → ⊥) → Placed (get_or list i 0 ∷ []) next l m l' → Filled c list d (i + 1) m l'
  filled_code h n p =
      let e : i + 1 ≡ suc i = omega arith in
      rw e (grown (get_or list i 0 ∷ []) (suc i) h (placed_fitting p) (ap (expanded (eight c)) (drop-cons list i 0 h) ∙ expanded-code (eight c) (get_or list i 0) (drop (suc i) list) n))

  pub filled_last : {m : ℕ} {l' : List ℕ} → i < length list → length list ≤ i + 1 → Placed (get_or list i 0 ∷ []) next l m l' → Filled c list d (i + 1) m l'
  unfolding expanded
  filled_last h n p =
      let e : i + 1 ≡ suc i = omega arith in
      let z : drop (suc i) list ≡ [] = drop_of_length-le list {i = suc i} (omega arith) in
      rw e (grown (get_or list i 0 ∷ []) (suc i) h (placed_fitting p)
      (ap (expanded (eight c)) (drop-cons list i 0 h ∙ ap (λ t. get_or list i 0 ∷ t) z) ∙ ap (λ t. get_or list i 0 ∷ expanded (eight c) t) (sym z)))

  pub filled_constant : {m n : ℕ} {l₁ l₂ : List ℕ} → i + 1 < length list → get_or list i 0 ≡ 0 → Placed (get_or list i 0 ∷ []) next l m l₁
      → Fitting (eight c (get_or list (i + 1) 0)) m l₁ n l₂ → Filled c list d (i + 1 + 1) n l₂
  filled_constant h z p f =
      let e : i + 1 ≡ suc i = omega arith in
      let o : i + 1 + 1 ≡ suc (suc i) = omega arith in
      let x = get_or list i 0 in
      let y = get_or list (suc i) 0 in
      let f' : Fitting (eight c y) _ _ _ _ = rw e at f in
      rw o (grown (x ∷ eight c y) (suc (suc i)) (omega arith) (fitting_then (placed_fitting p) f')
      (ap (expanded (eight c)) (drop-cons list i 0 (omega arith) ∙ ap (λ t. x ∷ t) (drop-cons list (suc i) 0 (omega arith))) ∙ expanded-constant (eight c) x y (drop (suc (suc i)) list) z))

  pub filled_end : length list ≤ i → Fitting (expanded (eight c) list) 0 d next l
  unfolding expanded
  filled_end h = fitting_as (sym (g.whole ∙ ap (λ t. g.text ++ expanded (eight c) t) (drop_of_length-le list {i = i} h) ∙ append-nil g.text)) g.fits
