-- The buffer holds the line, without its bytes 10, and byte 10 behind it.
use Rattle.std.proofs.Common.{◌≡◌, ap, ◌∙◌, List, [], ◌∷◌, ◌++◌, ℕ, ◌+◌, ◌<◌, arith, length, take, set, add-one, take-suc-set, take_all}
use Rattle.directed.specs.Answer.{built}
use Rattle.lines.specs.Alone.{unmarked}
use Rattle.lines.specs.Cut.{first_line}
use Rattle.lines.specs.Ended.{line_answer}
use Rattle.lines.specs.Line.{answer}
use Rattle.lines.proofs.Alone.{unmarked-answer, unmarked-line}
use Rattle.lines.proofs.answer.Goals as goal

ended : (line b : List ℕ) (i : ℕ) → i ≡ length line → length line < length b → take i b ≡ unmarked (take i line)
    → take (length line + 1) (set b (length line) 10) ≡ unmarked line ++ (10 ∷ [])
ended line b i n h e =
    let t = rw n at e in
    rw (add-one, take-suc-set b (length line) 10 h, t, take_all (length line) line (omega arith))

pub returns : goal.returns
returns c =
    let line = c.args.line.now in
    let l = c.loop-i in
    let e = ended line l.buffer l.i (omega arith) (omega (arith, l.invariant.0)) l.invariant.1 in
    line_answer _ 0 _ c.line_at.ensures ∙ ap built (ap (λ t. answer (first_line t)) e ∙ ap answer (unmarked-line line []) ∙ unmarked-answer line)
