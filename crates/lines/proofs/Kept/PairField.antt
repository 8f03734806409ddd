-- Laws that no proof cites any more, and that stand: the pair at the front of a field, its ends and the place behind it apart.
use Rattle.std.specs.Prelude.{◌≡◌, List, ℕ, ◌+◌, ◌<◌, ℤ, length, take, drop, None}
use Rattle.std.proofs.Common.{sym}
use Rattle.directed.specs.declared.Ends.{Ends}
use Rattle.directed.specs.Lift.{pair_in}
use Rattle.directed.specs.Thousandths.{Pair, pair}
use Rattle.directed.specs.Answer.{refusal, within_range}
use Rattle.text.specs.declared.Found.{Found}
use Rattle.text.specs.Answer.{read, found, line_front}
use Rattle.text.specs.TextLaws.{Short}
use Rattle.text.proofs.Kept.FrontLaws.{Front}
use Rattle.lines.specs.Cut.{stop, field_end, field_text, IsEndedLines}
use Rattle.lines.specs.PairField as laws
use Rattle.lines.specs.PairField.{Passed}

-- Behind a pair the lines go on, and its field ends where it ends from there on; if it ends there it is the pair, and else none.
pub record Placed (s : List ℕ) (from next : ℕ) (p : Pair) : Type 0 where
  pub inside : next < length s
  pub passed : next + stop (drop next s) ≡ from + stop (drop from s)
  pub whole : next ≡ from + stop (drop from s) → read (take (stop (drop from s)) (drop from s)) ≡ within_range 2 p
  pub part : (next ≡ from + stop (drop from s) → ⊥) → read (take (stop (drop from s)) (drop from s)) ≡ refusal 1
  pub short : Short p

as_placed : {s : List ℕ} {from : ℕ} (r : Found (Ends ℤ)) → Passed s from r → Placed s from r.next (pair_in r.value)
unfolding field_end field_text
as_placed r p = record { inside = p.inside; passed = p.passed; whole = p.whole; part = p.part; short = p.short }

module _ {s : List ℕ} (l : IsEndedLines s) (from : ℕ) where
  pub placed : (lower upper : ℤ) (next : ℕ) → Front (drop from s) from lower upper next → Placed s from next (pair lower upper)
  placed lower upper next f =
      let r : Found (Ends ℤ) = record { value = record { lower = lower; upper = upper }; next = next } in
      as_placed r (laws.placed l from r (record { in_form = f.in_form; value_is = f.value_is; behind = f.behind }))

  pub found_placed : (lower upper : ℤ) (next : ℕ) → found (record { lower = lower; upper = upper }) next ≡ line_front s from → Placed s from next (pair lower upper)
  found_placed lower upper next e =
      let r : Found (Ends ℤ) = record { value = record { lower = lower; upper = upper }; next = next } in
      as_placed r (laws.found_placed l from r e)

  pub none_read : None ≡ line_front s from → read (take (stop (drop from s)) (drop from s)) ≡ refusal 1
  unfolding field_text
  none_read e = laws.none_read l from (sym e)
