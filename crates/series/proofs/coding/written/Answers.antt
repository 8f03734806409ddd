-- A step more, and its one or two bytes.
use Rattle.std.proofs.Common.{lit<, arith, ◌∙◌, sym}
use Rattle.series.proofs.Reading.{written_few, written_constant, written_code, written_none}
use Rattle.series.proofs.coding.written.Goals as goal
use Rattle.series.proofs.coding.written.Goals.{then-step-lt4, else-step-lt4}

pub loop-step-init : goal.loop-step-init
loop-step-init c = c.new-bytes.ensures ∙ sym written_none

pub push-requires : goal.push-requires
push-requires c = let l = c.loop-step in
    let s = c.as_slice-step-items.ensures in
    (lit< tt, omega (arith, written_few l.step-index _ l.invariant (rw s.value at c.loop-step-test.true) (rw s.value at s.fits)))

pub push-requires-then-step-lt4 : goal.push-requires-then-step-lt4
push-requires-then-step-lt4 c = let l = c.loop-step in
    let s = c.as_slice-step-items.ensures in
    (lit< tt, omega (arith, c.push.ensures.len, written_few l.step-index _ l.invariant (rw s.value at c.loop-step-test.true) (rw s.value at s.fits)))

pub push-requires-else-step-lt4 : goal.push-requires-else-step-lt4
push-requires-else-step-lt4 c = let l = c.loop-step in
    let s = c.as_slice-step-items.ensures in
    (lit< tt, omega (arith, written_few l.step-index _ l.invariant (rw s.value at c.loop-step-test.true) (rw s.value at s.fits)))

pub loop-step-preserved : goal.loop-step-preserved
loop-step-preserved c = let l = c.loop-step in
    let s = c.args.steps.now.items in
    let h = rw c.as_slice-step-items.ensures.value at c.loop-step-test.true in
    elim c.if-step-lt4.branch [
      | then-step-lt4 w ↦ let e = written_constant l.step-index s l.invariant h (rw c.as_slice-step-items.ensures.value at w.if-step-lt4.true) in cc
      | else-step-lt4 w ↦ let e = written_code l.step-index s l.invariant h (rw c.as_slice-step-items.ensures.value at w.if-step-lt4.false) in cc
    ]
