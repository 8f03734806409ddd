-- The calls of `feed`, then what is kept.
use Rattle.decimal.specs.PlaceLaws.{wrote_front}
use Rattle.std.proofs.Common.{ℕ, arith, length-take}
use Rattle.slip.proofs.Buffers.advance.Goals as goal

pub invariant_of-result : goal.invariant_of-result
invariant_of-result g c = record { few = c.in_ok-fed.ensures.bounded.0; short = omega (arith, c.keep-held.ensures.next_is, length-take {A = ℕ}) }

pub returns-clause-advanced : goal.returns-clause-advanced
returns-clause-advanced g c = record { at = c.in_ok-fed.fed.at; drained = c.in_ok-fed.ensures.drained; kept = wrote_front c.keep-held.ensures }
