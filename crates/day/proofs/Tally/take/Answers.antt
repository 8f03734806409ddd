-- The block is accepted in its place.
use Rattle.std.proofs.Common.{◌≡◌, ℕ, ◌<◌, List, refl, sym}
use Rattle.directed.specs.Answer.{Judgement, sound, cause, value, unless}
use Rattle.directed.specs.Located as places
use Rattle.directed.specs.Located.{Located, at}
use Rattle.blocks.specs.Block.{judgement}
use Rattle.blocks.proofs.Causes.{judged-is}
use Rattle.day.specs.TallyLaws.{At, in_place, at_exactly}
use Rattle.day.proofs.Tally.take.Goals as goal

in_file : (place : ℕ) (b : List ℕ) → At place b sound → (place < 100) × (judgement place place b ≡ sound)
in_file place b (in_place h j) = (h, judged-is place place b j)

passed : (place : ℕ) (j : Judgement) → ◌≡◌ {A = Located (Unit {0})} (places.value tt) (at place (unless j (value tt))) → j ≡ sound
passed place sound e = refl
passed place (cause n) e = cc

pub extended-requires : goal.extended-requires
extended-requires c =
    let q = in_file _ c.args.block.now ((at_exactly _ _ sound).0 (passed _ _ c.in_ok-judge_at.ensures)) in
    record { few = q.0; possible = sym c.if-not-is_possible.ensures; accepted = q.1 }
