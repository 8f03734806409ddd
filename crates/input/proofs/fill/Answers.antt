-- What this read gave stands behind what is held.
use Rattle.std.proofs.Common.{◌≡◌, ℕ, ◌+◌, Option, List, take, drop, sym, arith}
use Rattle.std.specs.Io.KnownBytes.{Consumes}
use Rattle.std.proofs.Math.Seq.{take-add}
use Rattle.std.proofs.KnownBytes.{Consumes-trans}
use Rattle.input.proofs.fill.Goals as goal

-- n bytes more, behind those that are held
behind : (r r' r'' : Option (List ℕ)) (held n : ℕ) (old new : List ℕ) → Consumes r r' (take held old) → take held new ≡ take held old
    → Consumes r' r'' (take n (drop held new)) → Consumes r r'' (take (held + n) new)
behind r r' r'' held n old new c e d = rw (take-add held n new) (Consumes-trans r r' r'' _ _ (rw (sym e) at c) d)

pub loop-held-preserved : goal.loop-held-preserved
loop-held-preserved g c = record {
  within = omega (arith, c.in_ok-n.ensures.within);
  consumed = behind _ (g.R.Source.remaining c.loop-held.from) _ c.loop-held.held _ c.loop-held.buffer _ c.loop-held.invariant.consumed c.in_ok-n.ensures.kept c.in_ok-n.ensures.consumed;
}
