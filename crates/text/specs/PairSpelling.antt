-- The text of a pair whose ends are spelled somehow, and what is behind it.
use Rattle.std.specs.Prelude.{ℕ, List, ◌∷◌, ◌++◌}
use Rattle.text.specs.Text.{opening, comma, closing}

-- two ends in their marks, and what is behind
abbrev pub pair_text : List ℕ → List ℕ → List ℕ → List ℕ
pair_text s u r = opening ∷ (s ++ (comma ∷ (u ++ (closing ∷ r))))
