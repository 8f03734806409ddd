-- Laws that no proof cites any more, and that stand: the loop over the series, its lists in a buffer.
use Rattle.std.specs.Prelude.{◌≡◌, refl, List, ℕ, ◌+◌, ◌≤◌, ◌<◌, length, take}
use Rattle.std.proofs.Common.{ap, arith}
use Rattle.series.specs.Series.{series, byte_lists, Told, first_of, next_of}
use Rattle.series.specs.Generator.{Counted, Calls, series_run}
use Rattle.series.specs.Returned.{Stands, stands, no_list}
use Rattle.burnin.specs.Runs.{Onto, onto, over_none, map-length, most}
use Rattle.burnin.proofs.Kept.{stands_inside}

-- `lists` of them were run, none differed, and the next one stands in l
pub record Running (k lists differed n : ℕ) (l : List ℕ) : Type 0 where
  pub told : Told
  pub standing : Stands told n l
  pub left : List (List ℕ)
  pub calls : Calls k told left
  pub count : lists + length left ≡ length (series k)
  pub none : differed ≡ 0

pub running_start : {k n : ℕ} {l : List ℕ} → Counted k → Stands (first_of k) n l → Running k 0 0 n l
running_start {k} q s = record { told = first_of k; standing = s; left = byte_lists k; calls = series_run k q; count = omega (arith, map-length (series k)); none = refl }

module _ {k lists differed n : ℕ} {l : List ℕ} (g : Running k lists differed n l) where
  next_there : 0 < n → Onto k (take n l) g.left
  next_there h = go g.standing
    where
      go : Stands g.told n l → Onto k (take n l) g.left
      go (stands a b e) = onto g.calls e
      go (no_list z e) = absurd (omega arith)

  pub running_inside : n ≤ length l
  running_inside = stands_inside g.standing

  pub running_few : Counted k → 0 < n → lists < 11236
  running_few q h = let o = next_there h in omega (arith, most k q, g.count, ap length o.is)

  pub running_next : {m : ℕ} {l' : List ℕ} → 0 < n → Stands (next_of k (take n l)) m l' → Running k (lists + 1) differed m l'
  running_next h s = let o = next_there h in record { told = next_of k (take n l); standing = s; left = o.behind; calls = o.calls; count = omega (arith, g.count, ap length o.is); none = g.none }

  pub running_end : n ≤ 0 → lists ≡ length (series k)
  running_end h = go g.standing
    where
      go : Stands g.told n l → lists ≡ length (series k)
      go (stands a b e) = absurd (omega arith)
      go (no_list z e) = omega (arith, g.count, ap length (over_none g.calls e))
