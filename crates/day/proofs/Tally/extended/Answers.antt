-- The records of a block that is accepted are few, and their sums small.
use Rattle.std.proofs.Common.{arith}
use Rattle.day.specs.Tally.{count_in}
use Rattle.day.specs.TallyLaws.{possible-read, block_sum_small}
use Rattle.day.proofs.Tally.extended.Goals as goal

pub overflow_add-result-2 : goal.overflow_add-result-2
overflow_add-result-2 c = omega (arith, possible-read (count_in c.args.self) c.requires.possible)

pub joined-requires : goal.joined-requires
joined-requires c =
    let p = possible-read (count_in c.args.self) c.requires.possible in
    let e = c.sums_of.ensures in
    let w = block_sum_small _ c.args.block.now c.requires.accepted in
    record { a_small = (p.1, p.2); b_small = (rw (← e) at w.0, rw (← e) at w.1) }
