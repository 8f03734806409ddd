-- Put together, the line fills the front of what it is put together in.
use Rattle.std.proofs.Common.{sym, length-take-le}
use Rattle.decimal.specs.PlaceLaws.{wrote_within, wrote_front, placed_as}
use Rattle.text.proofs.put_refusal.Goals as goal

pub slice_bounds-put_bytes-end : goal.slice_bounds-put_bytes-end
slice_bounds-put_bytes-end c = sym (length-take-le _ _ (wrote_within c.fill_refusal-n.ensures.put))

pub returns-clause-placed : goal.returns-clause-placed
returns-clause-placed c = placed_as (wrote_front c.fill_refusal-n.ensures.put) c.put_bytes.ensures
