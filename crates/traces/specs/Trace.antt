-- The bytes of a trace (02, C-11): its contents, its records, and the test of both. Every number has its little end first.
use Rattle.std.specs.Prelude.{Bool, true, cond, not, ◌&&◌, ◌||◌, List, [], ◌∷◌, ℕ, zero, suc, ◌+◌, ◌*◌, eqb, leb, ltb, length, get_or}
use Rattle.basics.specs.Numbers.{number_of, part}
use Rattle.rules.specs.Device.{Value, none, some}

-- ---- contents

abbrev pub most_blocks : ℕ
most_blocks = 64

abbrev pub most_records : ℕ
most_records = 4000

abbrev pub record_length : ℕ
record_length = 16

-- the number of two bytes at a place
abbrev pub two_at : ℕ → List ℕ → ℕ
two_at at l = number_of (part at 2 l)

-- a block: the place of its first byte in the trace, and how many records it has
pub record Block : Type 0 where
  pub offset : ℕ
  pub records : ℕ

-- first the number of blocks, then for each block these two numbers, four bytes together
abbrev pub block_count : List ℕ → ℕ
block_count l = two_at 0 l

abbrev pub listed_at : ℕ → ℕ
listed_at b = 2 + 4 * b

abbrev pub block_at : ℕ → List ℕ → Block
block_at b l = record { offset = two_at (listed_at b) l; records = two_at (listed_at b + 2) l }

-- n blocks from number b on; all that are listed
unfoldable pub blocks_from : ℕ → ℕ → List ℕ → List Block
blocks_from zero b l = []
blocks_from (suc n) b l = block_at b l ∷ blocks_from n (suc b) l

abbrev pub blocks : List ℕ → List Block
blocks l = blocks_from (block_count l) 0 l

-- the records that blocks have together
unfoldable pub records_in : List Block → ℕ
records_in [] = 0
records_in (b ∷ bs) = b.records + records_in bs

-- blocks back to back in that order, the first at a place, none empty
unfoldable pub back_to_back : ℕ → List Block → Bool
back_to_back at [] = true
back_to_back at (b ∷ bs) = eqb b.offset at && (leb 1 b.records && back_to_back (at + record_length * b.records) bs)

-- the first block stands right behind the contents; how many records the trace has
abbrev pub first_place : List ℕ → ℕ
first_place l = listed_at (block_count l)

abbrev pub record_count : List ℕ → ℕ
record_count l = records_in (blocks l)

-- 1 to 64 blocks, as they have to stand; at most 4,000 records; and the trace ends with the last
unfoldable pub contents_good : List ℕ → Bool
contents_good l =
    (leb 1 (block_count l) && leb (block_count l) most_blocks)
    && (back_to_back (first_place l) (blocks l)
    && (leb (record_count l) most_records
    && eqb (length l) (first_place l + record_length * record_count l)))

-- ---- records

-- a record has 16 bytes: kind, one byte for the input or width, offset, four zero bytes, value
pub record Record : Type 0 where
  pub kind : ℕ
  pub byte : ℕ
  pub offset : ℕ
  pub zeros : ℕ
  pub value : ℕ

abbrev pub record_of : List ℕ → Record
record_of l = record {
  kind = get_or l 0 0;
  byte = get_or l 1 0;
  offset = number_of (part 2 2 l);
  zeros = number_of (part 4 4 l);
  value = number_of (part 8 8 l);
}

-- the one that stands at a place, and number k of the trace, counted from 0 from the first block on
abbrev pub record_at : ℕ → List ℕ → Record
record_at place l = record_of (part place record_length l)

abbrev pub record_place : List ℕ → ℕ → ℕ
record_place l k = first_place l + record_length * k

abbrev pub nth : List ℕ → ℕ → Record
nth l k = record_at (record_place l k) l

-- 1 raise, 2 lower, 3 poll, 4 read, 5 write, 6 drain of all
abbrev pub is_kind : ℕ → Bool
is_kind k = leb 1 k && leb k 6

-- the input or width is used by all but a drain, the offset by a read and a write, the value by a write
abbrev pub uses_byte : ℕ → Bool
uses_byte k = not (eqb k 6)

abbrev pub uses_offset : ℕ → Bool
uses_offset k = eqb k 4 || eqb k 5

abbrev pub uses_value : ℕ → Bool
uses_value k = eqb k 5

-- what is not used is zero
abbrev pub used_or_zero : Bool → ℕ → Bool
used_or_zero used x = used || eqb x 0

-- a record is bad if its kind is not 1 to 6 or an unused field or zero byte is not zero
unfoldable pub is_good : Record → Bool
is_good r =
    is_kind r.kind
    && (eqb r.zeros 0
    && (used_or_zero (uses_byte r.kind) r.byte
    && (used_or_zero (uses_offset r.kind) r.offset && used_or_zero (uses_value r.kind) r.value)))

abbrev pub is_bad : Record → Bool
is_bad r = not (is_good r)

-- ---- the test of a trace

-- the first of n numbers from k on that is bad; the number behind them where none is
unfoldable pub first_bad : (ℕ → Bool) → ℕ → ℕ → ℕ
first_bad bad zero k = k
first_bad bad (suc n) k = cond (bad k) k (first_bad bad n (suc k))

-- a good trace, with the place of its first record and how many it has; or what is wrong
pub data TraceTest : Type 0 where
  good : (first records : ℕ) → TraceTest
  wrong_contents : TraceTest
  bad_record : (number : ℕ) → TraceTest

-- what n records from a place on are found to be, where j is the first bad one
abbrev pub found_bad : ℕ → ℕ → ℕ → TraceTest
found_bad place n j = cond (ltb j n) (bad_record j) (good place n)

-- wrong contents, a wrong length or more than 4,000 records, then the first bad record
unfoldable pub trace_test : List ℕ → TraceTest
trace_test l =
    cond (contents_good l) (found_bad (first_place l) (record_count l) (first_bad (λ k. is_bad (nth l k)) (record_count l) 0)) wrong_contents

-- 12, then 13 with the number of the first bad record, counted from 0 over the trace; 0 for a good trace
abbrev pub trace_number : TraceTest → ℕ
trace_number (good first records) = 0
trace_number wrong_contents = 12
trace_number (bad_record k) = 13

abbrev pub trace_value : TraceTest → Value
trace_value (good first records) = none
trace_value wrong_contents = none
trace_value (bad_record k) = some k
