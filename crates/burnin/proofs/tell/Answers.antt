-- What was read decides, and its line is written.
use Rattle.std.proofs.Common.{arith, length-take-le}
use Rattle.burnin.proofs.Reading.{read_decides, written}
use Rattle.burnin.proofs.tell.Goals as goal

pub returns-clause-written : goal.returns-clause-written
returns-clause-written g c =
    let f = c.in_ok-n.ensures in
    let l = length-take-le c.in_ok-n.n _ f.within in
    written c.write_all.result _ _ _ _ _ c.write_all.ensures.bytes c.fill_line-end.ensures.1
    (read_decides _ _ _ f.consumed (omega (arith, l, f.within)) (λ h. f.ended (omega (arith, l, h))))
