-- What is returned at `?`.
use Rattle.std.proofs.Common.{◌≡◌, ℕ, List, sym}
use Rattle.std.proofs.lemmas.Result.{err_from_is_err_and}
use Rattle.directed.specs.declared.Interval.{Interval}
use Rattle.directed.specs.Answer.{cause}
use Rattle.blocks.specs.Block.{addable, added, stored, storing}
use Rattle.blocks.proofs.Opened.{added_refused}
use Rattle.blocks.proofs.add.Goals as goal

refused : (box line n : ℕ) (count : Interval) (b l : List ℕ) → l ≡ b → cause n ≡ addable count l → stored (cause n) l ≡ storing (added box line count b) b
refused box line n count b l e f = rw e (sym (added_refused count b box line b n (sym (rw e at f))))

pub returns-in_err-judge_adding : goal.returns-in_err-judge_adding
returns-in_err-judge_adding c =
    let p = err_from_is_err_and c.from_residual.result c.from_residual.ensures.1 in
    rw (p.1, p.2) (refused _ _ _ _ _ _ c.in-Some.ensures.cases.same c.in_err-judge_adding.ensures)
