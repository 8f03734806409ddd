-- A step with its constant, any other, and the end.
use Rattle.burnin.specs.Lists.{filling_code, filling_constant, filling_end}
use Rattle.burnin.proofs.runs.expanded.Goals as goal

pub loop-code-preserved-in-Some-split_first : goal.loop-code-preserved-in-Some-split_first
loop-code-preserved-in-Some-split_first c = let i = c.push.ensures.items in
    filling_constant c.loop-code.invariant c.in-Some.code.now c.in-Some-split_first.position.now c.in-Some.behind.now c.in-Some-split_first.behind.now c.put_constant.new.bytes.items
    c.in-Some.ensures.cases.0 c.in-Some-split_first.ensures.cases.0 c.if-code-eq0.true (rw i at c.put_constant.ensures.few) (rw i at c.put_constant.ensures.put)

pub loop-code-preserved-in_default-split_first : goal.loop-code-preserved-in_default-split_first
loop-code-preserved-in_default-split_first c = rw c.push.ensures.items (filling_code c.loop-code.invariant c.in-Some.code.now c.in-Some.behind.now c.in-Some.ensures.cases.0 (λ z. c.in_default-split_first.ensures.cases))

pub loop-code-preserved : goal.loop-code-preserved
loop-code-preserved c = rw c.push.ensures.items (filling_code c.loop-code.invariant c.in-Some.code.now c.in-Some.behind.now c.in-Some.ensures.cases.0 (λ z. absurd (c.if-code-eq0.false z)))

pub returns : goal.returns
returns c = filling_end c.loop-code.invariant c.in_default.ensures.cases
