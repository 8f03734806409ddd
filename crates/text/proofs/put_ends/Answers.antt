-- The place behind the text, or 0.
use Rattle.text.proofs.WriteLaws.{placed-judged}
use Rattle.text.proofs.put_ends.Goals as goal

pub returns : goal.returns
returns c = rw c.unwrap_or.ensures (placed-judged _ _ _ _ c.write_ends.ensures)
