-- Laws that no proof cites any more, and that stand: the field that begins at a place and ends at e, and those behind it.
use Rattle.std.specs.Prelude.{◌≡◌, List, [], ◌∷◌, ℕ, ◌+◌, ◌-◌, ◌<◌, length, take, drop, get_or}
use Rattle.std.proofs.Common.{sym, ap, ap₂, ◌∙◌, arith, add-one, drop-cons, drop-drop}
use Rattle.lines.specs.Cut as cut
use Rattle.lines.specs.Cut.{stop, field_end, field_text, fields_from, line_end, more}

pub field_first : (s : List ℕ) (from : ℕ) → fields_from s from ≡ take (stop (drop from s)) (drop from s) ∷ more (drop (stop (drop from s)) (drop from s))
unfolding field_text
field_first s from = cut.field_first s from

module _ (s : List ℕ) (from e : ℕ) (is : e ≡ from + stop (drop from s)) (inside : e < length s) where
  pub behind : drop (stop (drop from s)) (drop from s) ≡ get_or s e 0 ∷ drop (e + 1) s
  behind = drop-drop (stop (drop from s)) from s ∙ ap (λ i. drop i s) (sym is) ∙ rw (drop-cons s e 0 inside, add-one)

  pub long : stop (drop from s) ≡ e - from
  long = omega arith

  ended : e ≡ field_end s from
  unfolding field_end
  ended = is

  cut_out : field_text s from ≡ take (e - from) (drop from s)
  unfolding field_text
  cut_out = ap (λ n. take n (drop from s)) long

  pub field_then : get_or s e 0 ≡ 32 → fields_from s from ≡ take (e - from) (drop from s) ∷ fields_from s (e + 1)
  field_then h = cut.field_then s from (rw ended at inside) (rw ended at h) ∙ ap₂ (λ f i. f ∷ fields_from s (i + 1)) cut_out (sym ended)

  pub field_last : (get_or s e 0 ≡ 32 → ⊥) → fields_from s from ≡ take (e - from) (drop from s) ∷ []
  field_last h = cut.field_last s from (rw ended at inside) (rw ended at h) ∙ ap (λ f. f ∷ []) cut_out

  pub end_then : get_or s e 0 ≡ 32 → line_end s from ≡ line_end s (e + 1)
  end_then h = cut.end_then s from (rw ended at inside) (rw ended at h) ∙ ap (λ i. line_end s (i + 1)) (sym ended)

  pub end_last : (get_or s e 0 ≡ 32 → ⊥) → line_end s from ≡ e
  end_last h = cut.end_last s from (rw ended at inside) (rw ended at h) ∙ sym ended
