-- Laws that no proof cites any more, and that stand: a row of the table, as a place of a list that has something everywhere.
use Rattle.std.specs.Prelude.{◌≡◌, refl, Bool, true, List, [], ◌∷◌, map, ℕ, zero, suc, ◌+◌, get_or, Some, None, slice_get}
use Rattle.std.proofs.Common.{◌∙◌}
use Rattle.lists.specs.declared.Step.{Step}
use Rattle.lists.specs.Steps.{codes, code_of}
use Rattle.lists.specs.Table as table
use Rattle.lists.specs.Table.{every}

-- what is got is what stands there
pub got : (ss : List Step) (i : ℕ) → slice_get ss i ≡ get_or (map Some ss) i None
got [] i = refl
got (s ∷ ss) zero = refl
got (s ∷ ss) (suc i) = got ss i

pub code_got : (c : ℕ) → code_of c ≡ get_or (map Some codes) c None
unfolding code_of
code_got c = got codes c

pub of_row : (test : ℕ → Step → Bool) (n i : ℕ) (ss : List Step) (s : Step) → every test n ss ≡ true → get_or (map Some ss) i None ≡ Some s → test (n + i) s ≡ true
of_row test n i ss s h e = table.of_row test n i ss s h (got ss i ∙ e)
