-- Its parts, each behind the last, and how long they are: a cause's number is a byte's.
use Rattle.decimal.specs.Digits.{decimal}
use Rattle.decimal.specs.DigitLaws.{decimal-length, width-le}
use Rattle.decimal.specs.PlaceLaws.{placed_fitting, placed_as, fitting_then}
use Rattle.directed.specs.Answer.{number}
use Rattle.std.proofs.Common.{[], ◌∷◌, ◌++◌, ◌≤◌, ◌<◌, length, ap, arith, length-append}
use Rattle.text.specs.Refused.{refusal_line}
use Rattle.text.proofs.fill_refusal.Goals as goal

pub returns : goal.returns
unfolding refusal_line
returns c =
    let n = number c.args.why.cause in
    let place = decimal c.args.why.place in
    let small : n < 256 = omega (arith, c.number.type_inv, c.number.ensures) in
    let long : length (refusal_line n c.args.why.place) ≤ 17 = omega (
      arith,
      length-append (decimal n) (32 ∷ (place ++ (10 ∷ []))),
      length-append place (10 ∷ []),
      decimal-length n,
      decimal-length c.args.why.place,
      width-le n 3 (omega arith) (omega arith),
      width-le c.args.why.place 10 (omega arith) (omega arith),
    ) in
    record {
      put = fitting_then (placed_fitting c.put_bytes-behind_mark.ensures)
          (fitting_then (placed_fitting (placed_as (ap decimal c.number.ensures) c.put_number-space.ensures))
          (fitting_then (placed_fitting c.put_byte-behind_space.ensures) (fitting_then (placed_fitting c.put_number-end.ensures) (placed_fitting c.put_byte.ensures)))) (omega (arith, long));
      bounded = long;
    }
