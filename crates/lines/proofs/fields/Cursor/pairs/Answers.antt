-- One turn each: a pair is read, and more follow, or none; or a field is refused.
use Rattle.lines.specs.Cut.{end_last, scan_forward}
use Rattle.lines.proofs.RestLaws.{reading_first, counted-12, answers_as, answers_12, answers_limited, turn_refused, turn_many, turn_few, turn_last, turn_next, wants_most}
use Rattle.directed.specs.Answer.{built}
use Rattle.std.proofs.Common.{refl, sym, ap, ◌∙◌, arith, length-set}
use Rattle.lines.proofs.fields.Cursor.pairs.Goals as goal

pub loop-i-init : goal.loop-i-init
loop-i-init c = (refl, refl, c.args.self.now.behind, refl, reading_first _ _ _ _ _)

pub returns-then-i-wanted : goal.returns-then-i-wanted
returns-then-i-wanted c =
    let k = c.loop-i.invariant in
    let q = rw k.0 at c.in-Ok.ensures in
    let here = rw q.0 at q.1 in
    let last = rw q.0 at c.if-is_last.true in
    answers_12 (q.0 ∙ sym (end_last _ _ here last) ∙ k.4.same_end) c.malformed.ensures (turn_few k.4 here last (λ z. c.if-i-wanted.true (z ∙ sym c.wants-wanted.ensures)))

pub returns-then-is_last : goal.returns-then-is_last
returns-then-is_last c =
    let k = c.loop-i.invariant in
    let q = rw k.0 at c.in-Ok.ensures in
    let here = rw q.0 at q.1 in
    let last = rw q.0 at c.if-is_last.true in
    answers_limited (q.0 ∙ sym (end_last _ _ here last) ∙ k.4.same_end) c.limited.ensures
    (ap built (turn_last k.4 here _ q.2 _ c.ends.ensures (omega (arith, k.3, c.wants-wanted.ensures, wants_most c.args.operation)) _ last (c.if-i-wanted.false ∙ c.wants-wanted.ensures)) ∙ sym c.apply-answer.ensures)

pub returns-in-Err : goal.returns-in-Err
returns-in-Err c =
    let k = c.loop-i.invariant in
    let w = c.wants-wanted.ensures in
    answers_as k.4.same_end (turn_refused k.4 _ (omega (arith, w)) (rw k.0 at c.in-Err.ensures)) (rw (k.0, k.1, w) at c.refused.ensures)

pub loop-i-preserved : goal.loop-i-preserved
loop-i-preserved c =
    let k = c.loop-i.invariant in
    let q = rw k.0 at c.in-Ok.ensures in
    let m = c.moved-here.ensures in
    let f = scan_forward c.args.self.now.s.now c.loop-i.here.at in
    let t = turn_next k.4 (rw q.0 at q.1) _ q.2 _ c.ends.ensures (omega (arith, k.3, c.wants-wanted.ensures, wants_most c.args.operation)) (rw q.0 at c.if-is_last.false) in
    (m.bytes ∙ k.0, m.start ∙ k.1, omega (arith, k.2, q.0, f, m.place), length-set _ _ _ ∙ k.3, rw (m.place, q.0) t)

pub returns : goal.returns
returns c =
    let k = c.loop-i.invariant in
    answers_as k.4.same_end (turn_many k.4 (omega (arith, c.wants-wanted.ensures))) (rw (k.0, k.1, counted-12) at c.refused-2.ensures)
