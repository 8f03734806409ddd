-- Which texts are a pair's, with no mention of how they are read. That these read as it, and no others: proofs/RoundTrip.antt.
use Rattle.std.specs.Prelude.{◌≡◌, ℕ, List, []}
use Rattle.directed.specs.Thousandths.{Pair}
use Rattle.text.specs.TextLaws.{Short}
use Rattle.text.specs.Spelling.{SpellsEnd}
use Rattle.text.specs.PairSpelling.{pair_text}

-- the texts of a pair: each end as it is spelled, in its marks
pub record Spelled (t : List ℕ) (a : Pair) : Type 0 where
  pub lower_part : List ℕ
  pub upper_part : List ℕ
  pub lower_spelled : SpellsEnd a.lower lower_part
  pub upper_spelled : SpellsEnd a.upper upper_part
  pub spelled : t ≡ pair_text lower_part upper_part []

-- in form: a text of a pair whose ends have at most seven digits before the point
abbrev pub Writes : List ℕ → Pair → Type 0
Writes t a = Short a × Spelled t a
