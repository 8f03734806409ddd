-- What 2 is for in a sheet, whatever the order of its trays. The laws of a rearrangement: proofs/Rearranged.antt.
use Rattle.std.specs.Prelude.{Bool, false, ◌||◌, List, [], ◌∷◌}
use Rattle.directed.specs.Thousandths.{beyond_range}
use Rattle.sheet.specs.Sheet.{Tray}

-- 2 looks for one tray that has an end beyond the range
abbrev pub beyond : Tray → Bool
beyond t = beyond_range t.mass || beyond_range t.count

unfoldable pub any_beyond : List Tray → Bool
any_beyond [] = false
any_beyond (t ∷ ts) = beyond t || any_beyond ts
