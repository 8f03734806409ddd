-- Request Q-4's reader, who knows the first layout only. What it says of a block that Q-13's reader accepts: proofs/Old.antt.
use Rattle.std.specs.Prelude.{Bool, not, ◌&&◌, List, ℕ, ◌+◌, ◌*◌, eqb, leb, length, if◌then◌else◌}
use Rattle.std.proofs.Math.Seq.{slice}
use Rattle.directed.specs.Answer.{Judgement, sound, cause}
use Rattle.blocks.specs.Block.{number_of, count_of, layout_of, records, summed, all_zero, all_within}

-- ---- Q-4's words, as they were defined before Q-13
-- bytes 0 to 3: the number is from first to last, "byte 2 is the count of records, 0 to 30; byte 3 is 0"
unfoldable pub old_headed : ℕ → ℕ → List ℕ → Bool
old_headed first last b = (leb first (number_of b) && leb (number_of b) last) && (leb (count_of b) 30 && eqb (layout_of b) 0)

-- "Unused record bytes and bytes 484 to 507 are 0", and no end is beyond the range
unfoldable pub old_laid_out : ℕ → ℕ → List ℕ → Bool
old_laid_out first last b =
    old_headed first last b && ((all_zero (slice (4 + 16 * count_of b) 484 b) && all_zero (slice 484 508 b)) && all_within (records b))

unfoldable pub old_judgement : ℕ → ℕ → List ℕ → Judgement
old_judgement first last b =
    if not (eqb (length b) 512) then cause 13
    else (if not (summed b) then cause 14
    else (if not (old_laid_out first last b) then cause 15
    else sound))
