-- What is found of the blocks of a trace.
use Rattle.std.specs.Prelude.{◌≡◌, Bool, true, false, Option, Some, None, List, ℕ, ◌+◌, ◌*◌, ◌<◌, ◌≤◌, length, get_or}
use Rattle.traces.specs.Trace as traces
use Rattle.traces.specs.Trace.{most_blocks, most_records, record_length, block_count, listed_at, block_at, contents_good}
use Rattle.traces.specs.salvages.Kept.{body_of, bodies_from, records_of, bad_in, all_good, kept, joined}
use Rattle.pch_pic_salvage.specs.declared.torn.Block.{Block}
use Rattle.pch_pic_salvage.specs.declared.torn.Looked.{Looked}
use Rattle.pch_pic_salvage.specs.declared.torn.Left.{Left}

-- a block of the contents, as the rules of traces see it
abbrev pub block_view : Block → traces.Block
block_view r = record { offset = r.place; records = r.records }

-- the contents are good, and list n blocks
pub record Lists (l : List ℕ) (n : ℕ) : Type 0 where
  pub contents : contents_good l ≡ true
  pub count : n ≡ block_count l

-- the first bad record in each of them, counted within it
abbrev pub BadIn : List ℕ → List ℕ → ℕ → Type 0
BadIn bads l n = (b : ℕ) → b < n → get_or bads b 0 ≡ bad_in (body_of b l)

-- what there is to salvage by: such contents, and the first bad records
pub record Surveyed (bads l : List ℕ) (n : ℕ) : Type 0 where
  pub lists : Lists l n
  pub found : BadIn bads l n

-- what is known of block b: its entry stands in the trace, and its first bad record in the array
pub record Seen (bads l : List ℕ) (b : ℕ) : Type 0 where
  pub entry : listed_at b + 4 ≤ length l
  pub few : b < most_blocks
  pub size : records_of (body_of b l) ≡ (block_at b l).records
  pub bad : get_or bads b 0 ≡ bad_in (body_of b l)
  pub short : bad_in (body_of b l) ≤ most_records

-- where not all of its records are good, the first bad one
abbrev pub bad_unless : Bool → ℕ → Option ℕ
bad_unless true k = None
bad_unless false k = Some k

-- and what is told of it
pub record Looks (r : Looked) (l : List ℕ) (b : ℕ) : Type 0 where
  pub place : r.place ≡ (block_at b l).offset
  pub records : r.records ≡ (block_at b l).records
  pub bad : r.bad ≡ bad_unless (all_good (body_of b l)) (bad_in (body_of b l))

-- the blocks that are left of n
abbrev pub left_of : ℕ → List ℕ → List (List ℕ)
left_of n l = kept (bodies_from n 0 l)

-- how many they are, and how many records they have together
pub record Counts (r : Left) (l : List ℕ) (n : ℕ) : Type 0 where
  pub blocks : r.blocks ≡ length (left_of n l)
  pub records : record_length * r.records ≡ length (joined (left_of n l))
