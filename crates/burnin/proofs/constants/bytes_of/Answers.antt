-- Lower, then upper.
use Rattle.std.proofs.Common.{rules, ◌≡◌, refl, w32, to_z, of_z}
use Rattle.words.specs.Word.{signed_bytes}
use Rattle.burnin.specs.Stages.{both_placed}
use Rattle.burnin.proofs.constants.bytes_of.Goals as goal

pub returns : goal.returns
returns c =
    let l : to_z w32 (of_z w32 c.args.a.lower) ≡ c.args.a.lower = search rules in
    let u : to_z w32 (of_z w32 c.args.a.upper) ≡ c.args.a.upper = search rules in
    both_placed (signed_bytes c.args.a.lower) (signed_bytes c.args.a.upper) refl refl refl (rw l at c.put_i32-middle.ensures) (rw u at c.put_i32.ensures)
