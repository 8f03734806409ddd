-- What `find` says of a range, of the steps in it.
use Rattle.std.proofs.Common.{ℕ, ◌≤◌, ◌<◌, Option, Some, None, MatchOption, rules}
use Rattle.std.proofs.lemmas.Iterator.{first_from_Range}
use Rattle.series.specs.Nearest.{Fits, NoneFits, Found}
use Rattle.series.proofs.search.Stage.find.Goals as goal

found_or_none : (k w r a : ℕ) (o : Option ℕ)
    → MatchOption o ((f : ℕ) → a ≤ f → f < 13 → Fits k w r f → ⊥) (λ d. (a ≤ d) × (d < 13) × Fits k w r d × ((f : ℕ) → a ≤ f → f < d → Fits k w r f → ⊥))
    → MatchOption o (NoneFits k w r a) (Found k w r a)
found_or_none k w r a None h = record { none = h }
found_or_none k w r a (Some d) h = record { from = h.0; to = h.1; fits = h.2; first = h.3 }

pub returns : goal.returns
returns c = let s = c.args.self in
    let F : _ = Fits s.constants.count s.waiting c.args.left in
    found_or_none s.constants.count s.waiting c.args.left c.args.from c.find.result
    (first_from_Range _ _ _ _ F (λ d. F d → ⊥) c.find.ensures.ran (λ x q k. search rules) (λ x q k. search rules))
