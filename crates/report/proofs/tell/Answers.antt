-- There is room for the line, so what fills the front is the line.
use Rattle.std.proofs.Common.{sym, arith, length-take-le}
use Rattle.decimal.specs.PlaceLaws.{placed_fitting, wrote_within, wrote_front}
use Rattle.report.proofs.Reading.{written, written_told}
use Rattle.report.proofs.tell.Goals as goal

pub slice_bounds-line-end : goal.slice_bounds-line-end
slice_bounds-line-end g c = wrote_within (placed_fitting c.put_line-n.ensures.placed (omega (arith, c.put_line-n.ensures.bounded)))

pub slice_bounds-text-end : goal.slice_bounds-text-end
slice_bounds-text-end g c =
    sym (length-take-le _ _ (wrote_within (placed_fitting c.put_line-n.ensures.placed (omega (arith, c.put_line-n.ensures.bounded)))))

pub returns-clause-written : goal.returns-clause-written
returns-clause-written g c =
    written c.write_all.result _ _ _ _ _ c.write_all.ensures.bytes (wrote_front (placed_fitting c.put_line-n.ensures.placed (omega (arith, c.put_line-n.ensures.bounded)))) c.in_ok-day.ensures.known

pub returns-clause-printed : goal.returns-clause-printed
returns-clause-printed g c =
    written_told c.write_all.result _ _ _ _ c.write_all.ensures.bytes (wrote_front (placed_fitting c.put_line-n.ensures.placed (omega (arith, c.put_line-n.ensures.bounded)))) c.in_ok-day.ensures.unknown
