-- Laws that no proof cites any more, and that stand: an end from its sign on, and a pair end by end.
use Rattle.std.specs.Prelude.{◌≡◌, ℕ, ◌+◌, ◌-◌, ◌<◌, ◌≤◌, Bool, true, false, cond, ◌&&◌, List, length, drop, ℤ, ◌==◌, ◌≢◌, slice_index, slice_index_or, if◌then◌else◌, Option, Some, None}
use Rattle.std.proofs.Math.Path.{refl, sym, ap}
use Rattle.std.proofs.Common.{◌∙◌, arith}
use Rattle.std.proofs.Math.Seq.{drop-drop}
use borrow.Author.Tests.{eq-eqb, ne_eqb}
use Rattle.directed.specs.declared.Ends.{Ends}
use Rattle.directed.specs.Thousandths.{pair}
use Rattle.directed.specs.Answer.{refusal, within_range}
use Rattle.text.specs.Answer.{read, found, front_answer, line_front}
use Rattle.text.specs.declared.Found.{Found}
use Rattle.decimal.specs.Digits.{is_digit, starts}
use Rattle.decimal.specs.DigitLaws.{starts-at}
use Rattle.text.specs.Text.{minus, opening, comma, closing}
use Rattle.text.specs.Form.{sign_length, end_form, end_value, end_length, from_lower, behind_lower, from_upper, behind_upper, pair_form, pair_length, value_of}
use Rattle.text.specs.Ended.{Ended, inside_next}
use Rattle.text.specs.Parts.{size_answer, lead_answer, from_size, end_answer}
use Rattle.text.proofs.FrontLaws as laws

-- what is left from the upper end on, behind the lower end l
unfoldable pub upper_answer : List ℕ → ℕ → ℤ → Option (Found (Ends ℤ))
upper_answer t at l = if end_form t && starts closing (drop (end_length t) t) then found (record { lower = l; upper = end_value t }) (at + end_length t + 1) else None

-- what is left from the lower end on
unfoldable pub lower_answer : List ℕ → ℕ → Option (Found (Ends ℤ))
lower_answer t at =
    if end_form t && starts comma (drop (end_length t) t)
    then upper_answer (drop 1 (drop (end_length t) t)) (at + end_length t + 1) (end_value t)
    else None

-- what is left from the first or the second end on
unfoldable pub ends_answer : Bool → ℤ → List ℕ → ℕ → Option (Found (Ends ℤ))
ends_answer first l t at = if first then lower_answer t at else upper_answer t at l

-- the sign and the first digit

pub record Led (s : List ℕ) (from : ℕ) (m : Bool) (digit at : ℕ) : Type 0 where
  pub inside : at < length s
  pub leads : is_digit (slice_index s at) ≡ true
  pub worth : digit ≡ slice_index s at - 48
  pub sign : m ≡ starts minus (drop from s)
  pub place : at ≡ from + sign_length (drop from s)

module _ {s : List ℕ} (e : Ended s) (from : ℕ) (h : from < length s) where
  pub led : (m : Bool) (digit at : ℕ) → Some (record { minus = m; digit = digit; at = at }) ≡ lead_answer s from → Led s from m digit at
  led m digit at q =
      let l = laws.led e from h (record { minus = m; digit = digit; at = at }) q in
      record { inside = l.inside; leads = l.leads; worth = l.worth; sign = l.sign; place = l.place }

  -- no digit where one should be
  pub no_lead : None ≡ lead_answer s from → None ≡ end_answer (drop from s) from
  no_lead q = sym (laws.no_lead e from h (sym q))

-- what follows the sign is the end

pub led_end : {s : List ℕ} {from : ℕ} {m : Bool} {digit at : ℕ} → Led s from m digit at → from_size m (size_answer (drop at s) at) ≡ end_answer (drop from s) from
led_end {s} {from} {m} {digit} {at} l =
    laws.led_end {r = record { minus = m; digit = digit; at = at }} (record { inside = l.inside; leads = l.leads; worth = l.worth; sign = l.sign; place = l.place })

-- an end that was read, or none

pub record Is (t : List ℕ) (at : ℕ) (v : ℤ) (next : ℕ) : Type 0 where
  pub in_form : end_form t ≡ true
  pub amount : v ≡ end_value t
  pub behind : next ≡ at + end_length t

pub end_is : (t : List ℕ) (at : ℕ) (v : ℤ) (next : ℕ) → found v next ≡ end_answer t at → Is t at v next
end_is t at v next e =
    let i = laws.end_is t at (record { value = v; next = next }) e in
    record { in_form = i.in_form; amount = i.amount; behind = i.behind }

pub end_not : (t : List ℕ) (at : ℕ) → None ≡ end_answer t at → end_form t ≡ false
end_not t at e = laws.end_not t at (sym e)

-- the byte behind an end that was read

module _ {s : List ℕ} (e : Ended s) {at : ℕ} (h : at < length s) {v : ℤ} {next : ℕ} (i : Is (drop at s) at v next) where
  pub next-inside : next < length s
  next-inside = rw i.behind (laws.end_inside e at h i.in_form)

  pub behind_end : drop (end_length (drop at s)) (drop at s) ≡ drop next s
  behind_end = drop-drop (end_length (drop at s)) at s ∙ ap (λ n. drop n s) (sym i.behind)

  pub mark-here : (mark : ℕ) → starts mark (drop (end_length (drop at s)) (drop at s)) ≡ (slice_index s next == mark)
  mark-here mark = ap (starts mark) behind_end ∙ starts-at mark next s next-inside

  pub no_mark : (first : Bool) (l : ℤ) (mark : ℕ) → mark ≡ cond first comma closing → (slice_index s next ≢ mark) → None ≡ ends_answer first l (drop at s) at
  unfolding ends_answer lower_answer upper_answer
  no_mark true l mark k q = rw (i.in_form, mark-here comma, ne_eqb (slice_index s next) comma (λ z. q (z ∙ sym k)))
  no_mark false l mark k q = rw (i.in_form, mark-here closing, ne_eqb (slice_index s next) closing (λ z. q (z ∙ sym k)))

  pub upper_read : (l : ℤ) → slice_index s next ≡ closing → found (record { lower = l; upper = v }) (next + 1) ≡ ends_answer false l (drop at s) at
  unfolding ends_answer upper_answer
  upper_read l q = rw (i.in_form, mark-here closing, eq-eqb (slice_index s next) closing q, ← i.amount, ← i.behind)

  pub lower_read : (l : ℤ) → slice_index s next ≡ comma → ends_answer false v (drop (next + 1) s) (next + 1) ≡ ends_answer true l (drop at s) at
  unfolding ends_answer lower_answer
  lower_read l q =
      let b : drop 1 (drop (end_length (drop at s)) (drop at s)) ≡ drop (next + 1) s = ap (drop 1) behind_end ∙ drop-drop 1 next s in
      rw (b, i.in_form, mark-here comma, eq-eqb (slice_index s next) comma q, ← i.amount, ← i.behind)

  pub comma-next : slice_index_or s next 0 ≡ comma → next + 1 < length s
  comma-next q = inside_next e next next-inside (omega arith) (omega arith)

pub no_end : (first : Bool) (l : ℤ) (t : List ℕ) (at : ℕ) → None ≡ end_answer t at → None ≡ ends_answer first l t at
unfolding ends_answer lower_answer upper_answer
no_end true l t at e = rw (end_not t at e)
no_end false l t at e = rw (end_not t at e)

-- the pair

pub cut : (o f c g k : Bool) (y r : Option (Found (Ends ℤ))) → cond (o && (f && (c && (g && k)))) y r ≡ cond o (cond (f && c) (cond (g && k) y r) r) r
cut true true true g k y r = refl
cut true true false g k y r = refl
cut true false c g k y r = refl
cut false f c g k y r = refl

pub front_is : (t : List ℕ) (at : ℕ) → front_answer t at ≡ cond (starts opening t) (lower_answer (drop 1 t) (at + 1)) None
unfolding front_answer pair_form pair_length value_of from_lower behind_lower from_upper behind_upper lower_answer upper_answer
front_is t at =
    let a : ℕ = end_length (drop 1 t) in
    let b : ℕ = end_length (drop 1 (drop a (drop 1 t))) in
    let n : at + (1 + a + 1 + b + 1) ≡ at + 1 + a + 1 + b + 1 = omega arith in
    let u : List ℕ = drop 1 (drop a (drop 1 t)) in
    rw n
    (cut (starts opening t) (end_form (drop 1 t)) (starts comma (drop a (drop 1 t))) (end_form u) (starts closing (drop b u)) (found (record { lower = end_value (drop 1 t); upper = end_value u }) (at + 1 + a + 1 + b + 1)) None)

pub no_opening : (s : List ℕ) (from : ℕ) → from < length s → (slice_index s from ≢ opening) → None ≡ front_answer (drop from s) from
no_opening s from h q = sym (laws.no_opening s from h q)

pub from-opening : (s : List ℕ) (from : ℕ) (l : ℤ) → from < length s → slice_index s from ≡ opening → ends_answer true l (drop (from + 1) s) (from + 1) ≡ front_answer (drop from s) from
unfolding ends_answer
from-opening s from l h q = sym (front_is (drop from s) from ∙ rw (starts-at opening from s h, eq-eqb (slice_index s from) opening q, drop-drop 1 from s))

-- what stands at the front is the whole, or not

pub read-malformed : (t : List ℕ) → None ≡ front_answer t 0 → refusal 1 ≡ read t
read-malformed t e = laws.read-malformed t (sym e)

-- the pair that was found, and where it ends
pub record Front (t : List ℕ) (at : ℕ) (l u : ℤ) (next : ℕ) : Type 0 where
  pub in_form : pair_form t ≡ true
  pub value_is : pair l u ≡ value_of t
  pub behind : next ≡ at + pair_length t

pub front_found : (t : List ℕ) (at : ℕ) (l u : ℤ) (next : ℕ) → found (record { lower = l; upper = u }) next ≡ front_answer t at → Front t at l u next
front_found t at l u next e =
    let f = laws.front_found t at (record { value = record { lower = l; upper = u }; next = next }) e in
    record { in_form = f.in_form; value_is = f.value_is; behind = f.behind }

module _ {t : List ℕ} {l u : ℤ} {next : ℕ} (f : Front t 0 l u next) where
  as_today : laws.Front t 0 (record { value = record { lower = l; upper = u }; next = next })
  as_today = record { in_form = f.in_form; value_is = f.value_is; behind = f.behind }

  pub read_whole : next ≡ length t → within_range 2 (pair l u) ≡ read t
  read_whole e = laws.read_whole as_today e

  pub read-longer : (next ≢ length t) → refusal 1 ≡ read t
  read-longer e = laws.read-longer as_today e

-- a place of bytes that byte 10 ends, or not

module _ (s : List ℕ) (from : ℕ) where
  pub line_none : length s ≤ from → None ≡ line_front s from
  line_none h = sym (laws.line_none s from h)

  pub line_open : (slice_index s (length s - 1) ≢ 10) → None ≡ line_front s from
  line_open h = sym (laws.line_open s from h)
