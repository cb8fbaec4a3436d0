-- The blocks of a trace that are kept, and the trace that has them (02, C-23). A block stands here as its bytes: its records, one after another.
use Rattle.std.specs.Prelude.{Bool, cond, not, List, [], ◌∷◌, ◌++◌, ℕ, zero, suc, ◌+◌, ◌*◌, ◌/◌, eqb, length, drop}
use Rattle.basics.specs.Numbers.{bytes_of, part}
use Rattle.traces.specs.Trace.{record_length, two_at, block_count, listed_at, block_at, record_at, is_bad, first_bad}

-- ---- the blocks of a trace

-- the bytes of block b
abbrev pub body_of : ℕ → List ℕ → List ℕ
body_of b l = part (block_at b l).offset (record_length * (block_at b l).records) l

-- those of n blocks from number b on; of all that are listed
unfoldable pub bodies_from : ℕ → ℕ → List ℕ → List (List ℕ)
bodies_from zero b l = []
bodies_from (suc n) b l = body_of b l ∷ bodies_from n (suc b) l

abbrev pub bodies : List ℕ → List (List ℕ)
bodies l = bodies_from (block_count l) 0 l

-- how many records a block has
abbrev pub records_of : List ℕ → ℕ
records_of x = length x / record_length

-- ---- which of them are kept

-- the first bad record in a block, counted from 0 within it; how many it has where all are good
abbrev pub bad_in : List ℕ → ℕ
bad_in x = first_bad (λ j. is_bad (record_at (record_length * j) x)) (records_of x) 0

-- its records are all good
abbrev pub all_good : List ℕ → Bool
all_good x = eqb (bad_in x) (records_of x)

-- one more in front where it is so
abbrev pub front_if : {A : Type 0} → Bool → A → List A → List A
front_if t x xs = cond t (x ∷ xs) xs

-- the blocks whose records are all good, in the old order
unfoldable pub kept : List (List ℕ) → List (List ℕ)
kept [] = []
kept (x ∷ xs) = front_if (all_good x) x (kept xs)

-- a dropped block: its number, and the first bad record in it
pub record Dropped : Type 0 where
  pub block : ℕ
  pub bad : ℕ

-- the others, in rising order, where the first block has number b
unfoldable pub dropped_from : ℕ → List (List ℕ) → List Dropped
dropped_from b [] = []
dropped_from b (x ∷ xs) = front_if (not (all_good x)) (record { block = b; bad = bad_in x }) (dropped_from (suc b) xs)

-- ---- the bytes that are written

-- two u16, little end first
abbrev pub two_numbers : ℕ → ℕ → List ℕ
two_numbers m n = bytes_of 2 m ++ bytes_of 2 n

-- for each block its byte offset, of which the first is a place, and its number of records
unfoldable pub listing : ℕ → List (List ℕ) → List ℕ
listing at [] = []
listing at (x ∷ xs) = two_numbers at (records_of x) ++ listing (at + length x) xs

-- blocks back to back
unfoldable pub joined : List (List ℕ) → List ℕ
joined [] = []
joined (x ∷ xs) = x ++ joined xs

-- the trace that has these blocks: contents first, then the blocks in that order
abbrev pub contents_for : List (List ℕ) → List ℕ
contents_for xs = bytes_of 2 (length xs) ++ listing (listed_at (length xs)) xs

abbrev pub trace_of : List (List ℕ) → List ℕ
trace_of xs = contents_for xs ++ joined xs

-- the number of each dropped block and of the first bad record in it
unfoldable pub entries : List Dropped → List ℕ
entries [] = []
entries (d ∷ ds) = two_numbers d.block d.bad ++ entries ds

-- what a host reads of n such entries
unfoldable pub entries_in : ℕ → List ℕ → List Dropped
entries_in zero l = []
entries_in (suc n) l = record { block = two_at 0 l; bad = two_at 2 l } ∷ entries_in n (drop 4 l)

-- what a salvaged trace is: the trace of the blocks that are kept, and the list of those that are not
abbrev pub new_trace : List ℕ → List ℕ
new_trace l = trace_of (kept (bodies l))

abbrev pub drop_list : List ℕ → List ℕ
drop_list l = entries (dropped_from 0 (bodies l))
