-- Laws that no proof cites any more, and that stand: what is behind the last byte 10, as a test of the bytes.
use Rattle.std.specs.Prelude.{◌≡◌, refl, Bool, true, false, cond, List, [], ◌∷◌, ◌++◌, ℕ, ◌+◌, ◌-◌, ◌≤◌, ◌<◌, eqb, length, take, drop, get_or}
use Rattle.std.proofs.Common.{sym, ap, ◌∙◌, arith, take-append-drop, drop_of_length-le, drop-drop, get_or-take, length-take-le}
use Rattle.std.proofs.Math.Decide.{dec_lt}
use Rattle.std.proofs.lemmas.List.{drop-append-le}
use Rattle.lines.specs.Absent.{absent, absent-drop}
use Rattle.lines.specs.Feed.{grow_ended, ended_lines}
use Rattle.lines.specs.Cut.{IsEndedLines}

-- what has no byte 10 has no ended line
pub ended_absent : (o : List ℕ) → absent 10 o ≡ true → ended_lines o ≡ []
ended_absent [] h = refl
ended_absent (b ∷ o) h = go (eqb b 10) h (ended_absent o)
  where
    go : (x : Bool) → cond x false (absent 10 o) ≡ true → (absent 10 o ≡ true → ended_lines o ≡ []) → cond x ([] ∷ ended_lines o) (grow_ended b (ended_lines o)) ≡ []
    go true h f = let z : ◌≡◌ {A = ℕ} 0 1 = cc in absurd (omega arith)
    go false h f = ap (grow_ended b) (f h)

pub ended_front : (p o : List ℕ) → absent 10 o ≡ true → ended_lines (p ++ o) ≡ ended_lines p
ended_front [] o h = ended_absent o h
ended_front (b ∷ p) o h = ap (λ l. cond (eqb b 10) ([] ∷ l) (grow_ended b l)) (ended_front p o h)

-- the first n bytes of s end with byte 10, or are none, and no byte 10 is behind them
pub record IsLastEnd (s : List ℕ) (n : ℕ) : Type 0 where
  pub within : n ≤ length s
  pub ends : 0 < n → get_or s (n - 1) 0 ≡ 10
  pub none : absent 10 (drop n s) ≡ true

pub ended_trimmed : {s : List ℕ} {n : ℕ} → IsLastEnd s n → (from : ℕ) → ended_lines (drop from (take n s)) ≡ ended_lines (drop from s)
ended_trimmed {s} {n} t from = go (dec_lt n from)
  where
    m : length (take n s) ≡ n
    m = length-take-le n s t.within

    go : Dec (n < from) → ended_lines (drop from (take n s)) ≡ ended_lines (drop from s)
    go (yes h) =
        let k : n + (from - n) ≡ from = omega arith in
        let d : drop (from - n) (drop n s) ≡ drop from s = drop-drop (from - n) n s ∙ ap (λ i. drop i s) k in
        ap ended_lines (drop_of_length-le (take n s) {i = from} (omega (arith, m))) ∙ sym (ap ended_lines (sym d) ∙ ended_absent (drop (from - n) (drop n s)) (absent-drop 10 (from - n) (drop n s) t.none))
    go (no h) =
        let d : drop from s ≡ drop from (take n s) ++ drop n s = ap (drop from) (sym (take-append-drop n s)) ∙ drop-append-le from (take n s) (drop n s) (omega (arith, m)) in
        sym (ap ended_lines d ∙ ended_front (drop from (take n s)) (drop n s) t.none)

pub trimmed_ends : {s : List ℕ} {n : ℕ} → IsLastEnd s n → 0 < length (take n s) → IsEndedLines (take n s)
trimmed_ends {s} {n} t h =
    let m : length (take n s) ≡ n = length-take-le n s t.within in
    record { some = omega arith; last = ap (λ k. get_or (take n s) (k - 1) 0) m ∙ get_or-take n s (n - 1) 0 (omega arith) ∙ t.ends (omega arith) }
