-- Laws that no proof cites any more, and that stand: walking a list by the place of the next code.
use Rattle.std.specs.Prelude.{◌≡◌, List, [], ◌∷◌, ℕ, ◌+◌, ◌-◌, ◌≤◌, ◌<◌, length, take, drop, get_or}
use Rattle.std.proofs.Common.{sym, ap, ◌∙◌, arith, add-one, length-take, length-drop, drop_of_length-le, drop-cons, drop-drop, take_all}
use Rattle.directed.specs.Answer as answers
use Rattle.lists.specs.declared.Step.{Step}
use Rattle.lists.specs.Steps.{code_of, follows}
use Rattle.lists.specs.Lists.{refusal, Expression, stepped, at_end, read}
use Rattle.lists.specs.Endings.{Passed}
use Rattle.lists.specs.Walk as walk
use Rattle.lists.specs.Walk.{Passes, admitted_at}
pub mod Table
pub mod Exchange

-- the bytes behind the code at i, as a part of a slice gives them
abbrev pub behind : List ℕ → ℕ → List ℕ
behind s i = take (length s - (i + 1)) (drop (i + 1) s)

pub behind-is : (s : List ℕ) (i : ℕ) → behind s i ≡ drop (i + 1) s
behind-is s i = take_all (length s - (i + 1)) (drop (i + 1) s) (simp length-drop (omega arith))

pub behind-drop : (s : List ℕ) (i f : ℕ) → drop (i + 1 + f) s ≡ drop f (behind s i)
behind-drop s i f = sym (ap (drop f) (behind-is s i) ∙ drop-drop f (i + 1) s)

pub behind-fits : (s : List ℕ) (i f : ℕ) → i < length s → f ≤ length (behind s i) → i + 1 + f ≤ length s
behind-fits s i f h e = omega (arith, simp (length-take, length-drop) at e)

module _ (v steps k i : ℕ) (s : List ℕ) (ts : List Expression) (g : Passed v steps s k ts (drop i s)) where
  pub at_code : i < length s → Passed v steps s k ts (get_or s i 0 ∷ behind s i)
  at_code h = rw (behind-is s i, add-one) (rw (drop-cons s i 0 h) at g)

  pub walk_refused : (n : ℕ) → i < length s → answers.refusal n ≡ admitted_at steps k v (length ts) (code_of (get_or s i 0)) (behind s i)
      → read v steps 0 [] s ≡ refusal n k
  walk_refused n h e = walk.walk_refused (at_code h) n e

  pub walk_next : (x : Step) → i < length s → Passes steps k v (length ts) (code_of (get_or s i 0)) x (behind s i)
      → Passed v steps s (k + 1) (stepped k x (behind s i) ts) (drop (i + 1 + follows x) s)
  walk_next x h p = rw (behind-drop s i (follows x)) (walk.walk_next (at_code h) x p)

  pub walk_end : length s ≤ i → read v steps 0 [] s ≡ at_end k ts
  walk_end h = walk.walk_end v steps k s ts (rw (drop_of_length-le s h) at g)
