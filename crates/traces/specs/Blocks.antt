-- A record of the trace as a record of its block (02, C-11: blocks back to back in that order; 02, C-23: a record within its block).
use Rattle.std.specs.Prelude.{◌≡◌, List, ℕ, ◌+◌, ◌*◌, ◌<◌}
use Rattle.basics.specs.Numbers.{part}
use Rattle.traces.specs.Trace.{record_length, block_count, block_at, blocks_from, records_in, record_place}

-- how many records the blocks before number b have
abbrev pub records_before : List ℕ → ℕ → ℕ
records_before l b = records_in (blocks_from b 0 l)

-- where record j of block b stands, both counted from 0
abbrev pub place_in_block : List ℕ → ℕ → ℕ → ℕ
place_in_block l b j = (block_at b l).offset + record_length * j

-- record k of the trace is record j of block b: by its number, by its place, and byte for byte
pub record InBlock (l : List ℕ) (k b j : ℕ) : Type 0 where
  pub listed : b < block_count l
  pub inside : j < (block_at b l).records
  pub number : k ≡ records_before l b + j
  pub place : record_place l k ≡ place_in_block l b j
  pub bytes : part (record_place l k) record_length l ≡ part (place_in_block l b j) record_length l

-- a record has one block and one number in it
pub record Has (l : List ℕ) (k : ℕ) : Type 0 where
  pub block : ℕ
  pub in_it : ℕ
  pub stands : InBlock l k block in_it
