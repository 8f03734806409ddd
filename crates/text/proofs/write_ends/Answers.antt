-- There is room for the text, and it is written.
use Rattle.std.proofs.Common.{sym}
use Rattle.text.proofs.Opened.{ends_written}
use Rattle.text.proofs.WriteLaws.{judged-wrote}
use Rattle.text.proofs.write_ends.Goals as goal

pub returns : goal.returns
returns c = judged-wrote _ _ _ _ (ends_written _ _ _ _ (sym c.if-not-has_room.ensures)) c.put_framed.ensures
