-- A block more; at the end a short one, or none; a refusal decides.
use Rattle.std.proofs.Common.{◌≡◌, IfSome, rules, arith, length-take}
use Rattle.directed.specs.Answer.{number}
use Rattle.directed.specs.Located.{refusal}
use Rattle.day.specs.File.{report}
use Rattle.day.specs.Stream.{Told}
use Rattle.report.proofs.Reading.{read-none, read-block, read-end, read-refused, few_read, told-last, told_first}
use Rattle.report.proofs.day_of.Goals as goal

pub loop-init : goal.loop-init
loop-init g c = rw c.new-tally.ensures (read-none _)

pub returns-then-n-lt512-clause-unknown : goal.returns-then-n-lt512-clause-unknown
returns-then-n-lt512-clause-unknown g c = rw c.close.ensures (told-last _ c.loop.invariant (simp length-take (omega arith)))

pub returns-in-Err-clause-unknown : goal.returns-in-Err-clause-unknown
returns-in-Err-clause-unknown g c =
    let t : Told (refusal (number c.in-Err.why.cause) c.in-Err.why.place) =
    told_first (read-block _ c.in_ok-n.n _ c.loop.invariant c.if-n-lt512.array_long c.if-n-lt512.false c.in_ok-n.ensures.consumed c.in-Err.ensures) in
    search rules

pub returns-then-n-lt512-clause-known : goal.returns-then-n-lt512-clause-known
returns-then-n-lt512-clause-known g c =
    rw c.close.ensures
    (read-end _ _ c.loop.invariant (simp length-take (omega arith)) c.in_ok-n.ensures.consumed (c.in_ok-n.ensures.ended (omega arith)))

pub returns-in-Err-clause-known : goal.returns-in-Err-clause-known
returns-in-Err-clause-known g c =
    let t : IfSome (g.R.Source.remaining c.args.from.now) (λ s. refusal (number c.in-Err.why.cause) c.in-Err.why.place ≡ report s) =
    read-refused (read-block _ c.in_ok-n.n _ c.loop.invariant c.if-n-lt512.array_long c.if-n-lt512.false c.in_ok-n.ensures.consumed c.in-Err.ensures) in
    search rules

pub loop-preserved : goal.loop-preserved
loop-preserved g c =
    read-block _ c.in_ok-n.n _ c.loop.invariant c.if-n-lt512.array_long c.if-n-lt512.false c.in_ok-n.ensures.consumed c.in-Ok.ensures

-- no run has so many turns
pub returns-clause-blame : goal.returns-clause-blame
returns-clause-blame g c = absurd (omega (arith, few_read c.loop.invariant))
