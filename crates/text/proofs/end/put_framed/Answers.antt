-- Marks and ends, each behind the last.
use Rattle.text.proofs.Writes.{framed-fitting}
use Rattle.text.proofs.end.put_framed.Goals as goal

pub returns : goal.returns
returns g c = framed-fitting c.args.marks (g.E.End.value c.args.ends.lower) (g.E.End.value c.args.ends.upper)
    c.put_byte-start.ensures
    c.put_end-between.ensures
    c.put_byte-behind.ensures
    c.put_end-closing.ensures
    c.put_byte.ensures
