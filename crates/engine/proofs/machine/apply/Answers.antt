-- What is refused is the step's refusal; a constant is in the bytes behind its code.
use Rattle.std.proofs.Common.{arith, sym, ap, [], ◌∷◌}
use Rattle.std.proofs.lemmas.Grind.{common_steps}
use Rattle.std.proofs.lemmas.Result.{err_from_is_err_and}
use Rattle.std.proofs.lemmas.List.{reverse-append}
use Rattle.directed.specs.Answer as answers
use Rattle.directed.specs.Lift.{interval}
use Rattle.engine.proofs.Running.{constant_front}
use Rattle.engine.proofs.machine.apply.Goals as goal

pub returns-in-Constant-clause-value : goal.returns-in-Constant-clause-value
returns-in-Constant-clause-value c =
    rw (c.in-Constant.is, c.push.ensures.items)
    (record {
      value = c.constant_in.result;
      is = rw c.constant_in.ensures (ap (λ p. answers.value (interval p)) (sym (constant_front c.args.behind.now)));
      stack = reverse-append c.args.stack.now.items (c.constant_in.result ∷ []);
    })

pub returns-in_err-stack-in-One-clause-refused : goal.returns-in_err-stack-in-One-clause-refused
returns-in_err-stack-in-One-clause-refused c =
    let e = err_from_is_err_and c.from_residual.result c.from_residual.ensures.1 in
    rw (e.1, e.2) (grind (arith, common_steps))

pub returns-in_err-stack-in-Two-clause-refused : goal.returns-in_err-stack-in-Two-clause-refused
returns-in_err-stack-in-Two-clause-refused c =
    let e = err_from_is_err_and c.from_residual-in_err-stack-in-Two.result c.from_residual-in_err-stack-in-Two.ensures.1 in
    rw (e.1, e.2) (grind (arith, common_steps))
