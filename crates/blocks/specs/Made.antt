-- What bytes are that beginning and adding leave: a block that is accepted, with what it holds; and which blocks calls made. What calls leave, with their
-- contracts as the only premise: proofs/Made.antt.
use Rattle.std.specs.Prelude.{◌≡◌, true, List, [], ◌∷◌, ◌++◌, ℕ, ◌≤◌, length, Result}
use Rattle.directed.specs.declared.Interval.{Interval}
use Rattle.directed.specs.declared.Cause.{Cause}
use Rattle.directed.specs.Lift.{pair_of}
use Rattle.directed.specs.Answer.{sound, verdict_of}
use Rattle.blocks.specs.Block.{Record, record_of, block, number_of, layout_of, records, all_within, judgement, begun, added, stored, storing}

-- ---- a block, its number, its layout and its records
pub record IsBlock (number layout : ℕ) (rs : List Record) (l : List ℕ) : Type 0 where
  pub is : l ≡ block number layout rs
  pub accepted : judgement number number l ≡ sound
  pub number_is : number_of l ≡ number
  pub layout_is : layout_of l ≡ layout
  pub records_are : records l ≡ rs
  pub few : length rs ≤ 30
  pub within : all_within rs ≡ true

-- ---- blocks that calls made: one was begun, and each record was added to what the call before had left
pub data Made : ℕ → ℕ → List Record → List ℕ → Type 0 where
  beginning : {number layout : ℕ} {l : List ℕ} (d : List ℕ) (r : Result (Unit {0}) Cause) → stored (verdict_of r) l ≡ storing (begun number layout d) d → verdict_of r ≡ sound
      → Made number layout [] l
  adding : {number layout : ℕ} {rs : List Record} {d l : List ℕ} (box line : ℕ) (count : Interval) (r : Result (Unit {0}) Cause) → Made number layout rs d
      → stored (verdict_of r) l ≡ storing (added box line count d) d → verdict_of r ≡ sound → Made number layout (rs ++ (record_of box line (pair_of count) ∷ [])) l
