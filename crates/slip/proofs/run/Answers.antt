-- A turn leads from a state that some reads lead to to another, or to the whole output.
use Rattle.std.proofs.Common.{arith}
use Rattle.input.proofs.Amount.{none_read, more_read}
use Rattle.lines.proofs.StreamLaws.{reached_first, reached_next, reached_done}
use Rattle.slip.proofs.run.Goals as goal

pub loop-init : goal.loop-init
loop-init g c = record { reached = rw (c.new-st.ensures.0, c.new-st.ensures.1) (reached_first _ _); bytes = none_read _ }

pub returns-in_default-clause-answered : goal.returns-in_default-clause-answered
returns-in_default-clause-answered g c = reached_done c.loop.invariant.reached (rw c.in_default.is at c.in_ok-next.ensures.done)

pub loop-preserved : goal.loop-preserved
loop-preserved g c = record {
  reached = reached_next c.loop.invariant.reached (rw c.in-Some.is at c.in_ok-next.ensures.onward);
  bytes = more_read _ _ _ c.loop.counter 1 _ c.loop.invariant.bytes (rw c.in-Some.is at c.in_ok-next.ensures.reads) (omega arith);
}

pub turn-requires : goal.turn-requires
turn-requires g c = record { reached = (_, _, c.loop.invariant.reached) }
