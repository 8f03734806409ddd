-- One step a turn, and what is told where none stands there.
use Rattle.std.proofs.Common.{ℕ, arith, ◌∙◌, sym, refl, eqb-true}
use Rattle.std.proofs.lemmas.Bool.{eqb-false}
use Rattle.arrayvec.specs.ArrayVec.{ArrayVec}
use Rattle.series.proofs.Reading.{no_step, too_few, too_long, read_end, passed_more, passed_none, waiting_few}
use Rattle.series.proofs.coding.read.Goals as goal

pub loop-rest-init : goal.loop-rest-init
loop-rest-init c = rw (c.new-steps.ensures, c.empty-stage.ensures.constants, c.empty-stage.ensures.waiting) (record { few = omega arith; same = refl; passed = passed_none c.args.constants.count c.args.list.now })

pub returns-then-is_full : goal.returns-then-is_full
returns-then-is_full c = let p = c.loop-rest.invariant in
    too_long c.args.constants.few p.passed 5 (eqb-false _ _ (sym c.loop-rest-test.ensures)) (eqb-true _ _ (sym c.if-is_full.ensures.value))

pub returns-in_err-step : goal.returns-in_err-step
returns-in_err-step c = let p = c.loop-rest.invariant in
    rw c.from_residual.ensures (no_step c.args.constants.few p.passed 5 (eqb-false _ _ (sym c.loop-rest-test.ensures)) c.in_err-step.ensures)

pub returns-then-stage-taken : goal.returns-then-stage-taken
returns-then-stage-taken c = let p = c.loop-rest.invariant in
    too_few c.args.constants.few p.passed 5 c.in_ok-step.step c.in_ok-step.behind.now (eqb-false _ _ (sym c.loop-rest-test.ensures)) c.in_ok-step.ensures (omega (arith, c.taken.ensures, c.if-stage-taken.true))

pub behind-stage-requires : goal.behind-stage-requires
behind-stage-requires c = let p = c.loop-rest.invariant in
    (omega (arith, waiting_few c.args.constants.few p.passed, p.few), omega (arith, c.taken.ensures, c.if-stage-taken.false))

pub loop-rest-preserved : goal.loop-rest-preserved
loop-rest-preserved c = let p = c.loop-rest.invariant in
    record {
      few = omega (arith, c.push.ensures.len, p.few, eqb-false _ _ (sym c.if-is_full.ensures.value));
      same = c.behind-stage.ensures.constants ∙ p.same;
      passed = rw c.push.ensures.items (passed_more c.args.constants.few p.passed c.in_ok-step.step c.in_ok-step.behind.now c.in_ok-step.ensures (omega (arith, c.taken.ensures, c.if-stage-taken.false)) c.behind-stage.ensures.waiting);
    }

pub returns : goal.returns
returns c = let p = c.loop-rest.invariant in
    rw c.then_some.ensures (read_end c.args.constants.few p.passed 5 (λ (y : ArrayVec ℕ). y.items) c.loop-rest.steps _ (eqb-true _ _ (sym c.loop-rest-test.ensures)) refl p.few refl)
