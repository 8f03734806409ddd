-- Laws that no proof cites any more, and that stand: a state of the stream that some reads lead to, and one step, without the reader and the writer.
use Rattle.std.specs.Prelude.{◌≡◌, List, [], ◌∷◌, ◌++◌, ℕ, drop}
use Rattle.lines.specs.Lines.{output}
use Rattle.lines.specs.Feed.{clip, closed}
use Rattle.lines.specs.Calls.{Handed}
use Rattle.lines.specs.Stream.{concat, Led, start, read}
use Rattle.lines.proofs.StreamLaws.{cut_anyhow}

-- some such calls
pub record Handing (s : List ℕ) (k at k' at' : ℕ) : Type 0 where
  pub out : List ℕ
  pub calls : Handed s k at k' at' out

pub record Reached (k : ℕ) (held : List ℕ) : Type 0 where
  pub reads : List (List ℕ)
  pub out : List ℕ
  pub way : Led k held reads out

-- the calls for s, from k answered lines on, lead to k' and leave `held`
pub record Drained (s : List ℕ) (k k' : ℕ) (held : List ℕ) : Type 0 where
  pub at : ℕ
  pub handing : Handing s k 0 k' at
  pub kept : held ≡ clip (drop at s)

-- the calls at the end of the input, for what is held; with them the whole output has been handed over
pub record Finished (k : ℕ) (held : List ℕ) : Type 0 where
  pub lines : ℕ
  pub at : ℕ
  pub handing : Handing (closed held) k 0 lines at

pub reached_first : Reached 0 []
reached_first = record { reads = []; out = []; way = start }

pub reached_next : {k k' : ℕ} {held held' : List ℕ} (c : List ℕ) → Reached k held → Drained (held ++ c) k k' held' → Reached k' held'
reached_next c r d = record { reads = r.reads ++ (c ∷ []); out = r.out ++ d.handing.out; way = rw d.kept (read c r.way d.handing.calls) }

pub whole : {k : ℕ} {held : List ℕ} (r : Reached k held) (f : Finished k held) → r.out ++ f.handing.out ≡ output (concat r.reads)
whole r f = cut_anyhow r.way f.handing.calls
