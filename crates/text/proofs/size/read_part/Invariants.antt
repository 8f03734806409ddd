-- What may still come, behind what was read, gives the part.
use Rattle.text.proofs.ReadLaws.{Parting}
use Rattle.text.proofs.size.read_part.Given as goal

abbrev pub invariant-loop-k : goal.invariant-loop-k
invariant-loop-k l = Parting l.text l.whole l.at l.value l.k
