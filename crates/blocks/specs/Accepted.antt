-- Which bytes are accepted as a block. That it is exactly these: proofs/Accepted.antt.
use Rattle.std.specs.Prelude.{◌≡◌, true, List, ℕ, ◌≤◌, length}
use Rattle.blocks.specs.Block.{Record, block, all_within}

-- b is the block of a number from first to last, of a layout and of records that it can hold
pub record Block (first last : ℕ) (b : List ℕ) : Type 0 where
  pub number : ℕ
  pub layout : ℕ
  pub rs : List Record
  pub from : first ≤ number
  pub to : number ≤ last
  pub known : layout ≤ 1
  pub few : length rs ≤ 30
  pub within : all_within rs ≡ true
  pub is : b ≡ block number layout rs
