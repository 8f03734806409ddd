-- What holds where each number comes: of a block 13, 14, 15, 22; of beginning 13, 15; of adding the block's, then 13, then 2. That each comes exactly
-- there: proofs/Causes.antt.
use Rattle.std.specs.Prelude.{◌≡◌, true, false, List, [], ℕ, ◌+◌, ◌*◌, ◌≤◌, ◌<◌, length}
use Rattle.std.proofs.Math.Seq.{slice}
use Rattle.directed.specs.declared.Interval.{Interval}
use Rattle.directed.specs.Answer.{Outcome, value, refusal, Judgement, sound, cause}
use Rattle.directed.specs.Lift.{faulty}
use Rattle.words.specs.Word.{word_at}
use Rattle.blocks.specs.Block.{sum_of, byte_sum, block, number_of, count_of, layout_of, records, stored_sums, all_zero, all_within, spare, extended}

-- ---- the layout: each field as it should be, or the first that is not
pub record IsLaidOut (first last : ℕ) (b : List ℕ) : Type 0 where
  pub from : first ≤ number_of b
  pub to : number_of b ≤ last
  pub few : count_of b ≤ 30
  pub known : layout_of b ≤ 1
  pub unused : all_zero (slice (4 + 16 * count_of b) 484 b) ≡ true
  pub spared : all_zero (slice (spare (layout_of b)) 508 b) ≡ true
  pub within : all_within (records b) ≡ true

-- ---- the sums, where there are any
abbrev pub Kept : List ℕ → Type 0
Kept b = layout_of b ≡ 1 → stored_sums b ≡ sum_of (records b)

-- ---- a block: one constructor for each cause, in the order, with what makes it and the absence of those before it
pub data Judged (first last : ℕ) (b : List ℕ) : Judgement → Type 0 where
  wrong_length : (length b ≡ 512 → ⊥) → Judged first last b (cause 13)
  wrong_sum : length b ≡ 512 → (byte_sum (slice 0 508 b) ≡ word_at b 508 → ⊥) → Judged first last b (cause 14)
  wrong_layout : length b ≡ 512 → byte_sum (slice 0 508 b) ≡ word_at b 508 → (IsLaidOut first last b → ⊥) → Judged first last b (cause 15)
  wrong_sums : length b ≡ 512 → byte_sum (slice 0 508 b) ≡ word_at b 508 → IsLaidOut first last b → (Kept b → ⊥) → Judged first last b (cause 22)
  no_cause : length b ≡ 512 → byte_sum (slice 0 508 b) ≡ word_at b 508 → IsLaidOut first last b → Kept b → Judged first last b sound

-- ---- beginning
pub data Begins (number layout : ℕ) (d : List ℕ) : Outcome (List ℕ) → Type 0 where
  number_above : 99 < number → Begins number layout d (refusal 13)
  other_length : number ≤ 99 → (length d ≡ 512 → ⊥) → Begins number layout d (refusal 13)
  no_layout : number ≤ 99 → length d ≡ 512 → 1 < layout → Begins number layout d (refusal 15)
  begins : number ≤ 99 → length d ≡ 512 → layout ≤ 1 → Begins number layout d (value (block number layout []))

-- ---- adding
pub data Adds (box line : ℕ) (count : Interval) (b : List ℕ) : Outcome (List ℕ) → Type 0 where
  block_refused : {n : ℕ} → Judged 0 99 b (cause n) → Adds box line count b (refusal n)
  holds_30 : Judged 0 99 b sound → count_of b ≡ 30 → Adds box line count b (refusal 13)
  end_beyond : Judged 0 99 b sound → (count_of b ≡ 30 → ⊥) → faulty count ≡ true → Adds box line count b (refusal 2)
  adds : Judged 0 99 b sound → (count_of b ≡ 30 → ⊥) → faulty count ≡ false → Adds box line count b (value (extended box line count b))
