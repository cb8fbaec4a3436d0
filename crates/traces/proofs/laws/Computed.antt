-- The definitions on closed bytes, so that it is seen what they say: a trace of two blocks, and such traces with one thing wrong.
use Rattle.basics.proofs.Prelude.{◌≡◌, refl, Bool, true, false, List, [], ◌∷◌, ◌++◌, map, ℕ, length, take, set, replicate, bytes_of}
use Rattle.rules.specs.Device.{none, some}
use Rattle.traces.specs.Trace.{blocks_from, records_in, back_to_back, contents_good, record_of, is_good, first_bad, good, wrong_contents, bad_record, trace_test, trace_number, trace_value}
use Rattle.traces.specs.Played.{request_of, outcomes}
use Rattle.images.specs.Image.{image_test}
use Rattle.calls.specs.Calls.{outcome}
use Rattle.calls.specs.Calls as request

-- one name that opens what has to compute
unfoldable pub tracing : ℕ
unfolding blocks_from records_in back_to_back contents_good is_good first_bad trace_test request_of outcomes outcome image_test
tracing = 0

-- ---- a trace

abbrev pub bytes_as : (kind byte offset value : ℕ) → List ℕ
bytes_as kind byte offset value = kind ∷ byte ∷ (bytes_of 2 offset ++ (replicate 4 0 ++ bytes_of 8 value))

-- two blocks: the first with a raise, the second with a write and a drain
abbrev contents : List ℕ
contents = 2 ∷ 0 ∷ 10 ∷ 0 ∷ 1 ∷ 0 ∷ 26 ∷ 0 ∷ 2 ∷ 0 ∷ []

abbrev day : List ℕ
day = contents ++ (bytes_as 1 3 0 0 ++ (bytes_as 5 4 0x020 0xffff0000 ++ bytes_as 6 0 0 0))

day_good : trace_test day ≡ good 10 3
unfolding tracing
day_good = refl

-- ---- wrong contents

no_block : trace_test (0 ∷ 0 ∷ []) ≡ wrong_contents
unfolding tracing
no_block = refl

no_byte : trace_test [] ≡ wrong_contents
unfolding tracing
no_byte = refl

-- the second block empty, and the trace so much shorter
empty_block : contents_good (take 26 (set day 8 0)) ≡ false
unfolding tracing
empty_block = refl

-- both blocks listed as the other
out_of_order : contents_good (2 ∷ 0 ∷ 42 ∷ 0 ∷ 1 ∷ 0 ∷ 10 ∷ 0 ∷ 2 ∷ 0 ∷ replicate 48 0) ≡ false
unfolding tracing
out_of_order = refl

-- a gap behind the contents
gap : contents_good (1 ∷ 0 ∷ 7 ∷ 0 ∷ 1 ∷ 0 ∷ replicate 17 0) ≡ false
unfolding tracing
gap = refl

-- a byte less and a byte more than the last block has
shorter : contents_good (take 57 day) ≡ false
unfolding tracing
shorter = refl

longer : contents_good (day ++ (0 ∷ [])) ≡ false
unfolding tracing
longer = refl

-- ---- bad records

abbrev read : (kind byte offset value : ℕ) → Bool
read kind byte offset value = is_good (record_of (bytes_as kind byte offset value))

-- each kind with all the fields that it uses
each_kind : read 1 63 0 0 ∷ read 2 63 0 0 ∷ read 3 63 0 0 ∷ read 4 8 0x3a0 0 ∷ read 5 8 0x3a0 7 ∷ read 6 0 0 0 ∷ [] ≡ replicate 6 true
unfolding tracing
each_kind = refl

-- an input of 64 or a width of 3 is no bad record: the call is refused
refused_not_bad : read 1 64 0 0 ∷ read 4 3 0 0 ∷ [] ≡ replicate 2 true
unfolding tracing
refused_not_bad = refl

no_kind : read 0 0 0 0 ∷ read 7 0 0 0 ∷ read 255 0 0 0 ∷ [] ≡ replicate 3 false
unfolding tracing
no_kind = refl

-- an offset or a value that is not used
offset_unused : read 1 0 1 0 ∷ read 2 0 1 0 ∷ read 3 0 256 0 ∷ read 6 0 1 0 ∷ [] ≡ replicate 4 false
unfolding tracing
offset_unused = refl

value_unused : read 1 0 0 1 ∷ read 2 0 0 1 ∷ read 3 0 0 1 ∷ read 4 1 0 1 ∷ read 6 0 0 1 ∷ [] ≡ replicate 5 false
unfolding tracing
value_unused = refl

byte_unused : read 6 1 0 0 ≡ false
unfolding tracing
byte_unused = refl

-- each of the four zero bytes
zero_set : map (λ i. is_good (record_of (set (bytes_as 5 4 0x020 0) i 1))) (4 ∷ 5 ∷ 6 ∷ 7 ∷ []) ≡ replicate 4 false
unfolding tracing
zero_set = refl

-- the first bad record is told, from 0 on
first_told : trace_test (set day 10 7) ≡ bad_record 0
unfolding tracing
first_told = refl

second_told : trace_test (set (set day 26 7) 43 1) ≡ bad_record 1
unfolding tracing
second_told = refl

last_told : trace_test (set day 43 1) ≡ bad_record 2
unfolding tracing
last_told = refl

numbers_told : map trace_number (good 10 3 ∷ wrong_contents ∷ bad_record 2 ∷ []) ≡ 0 ∷ 12 ∷ 13 ∷ []
numbers_told = refl

value_told : map trace_value (good 10 3 ∷ wrong_contents ∷ bad_record 2 ∷ []) ≡ none ∷ none ∷ some 2 ∷ []
value_told = refl

-- ---- the call that a record is

abbrev asks : (kind byte offset value : ℕ) → request.Request
asks kind byte offset value = request_of (record_of (bytes_as kind byte offset value))

lines_moved : asks 1 3 0 0 ∷ asks 2 3 0 0 ∷ asks 3 3 0 0 ∷ [] ≡ request.level 3 1 ∷ request.level 3 0 ∷ request.poll 3 ∷ []
unfolding tracing
lines_moved = refl

accesses : asks 4 8 0x3a0 0 ∷ asks 5 4 0x020 7 ∷ [] ≡ request.read 0 65536 0x3a0 8 ∷ request.write 0 65536 0x020 4 7 ∷ []
unfolding tracing
accesses = refl

all_drained : asks 6 0 0 0 ≡ request.drain (replicate 64 0) 0
unfolding tracing
all_drained = refl

-- two polls on no image at all, both refused: the first does not end the play
both_made : length (outcomes [] (record_of (bytes_as 3 0 0 0) ∷ record_of (bytes_as 3 1 0 0) ∷ [])) ≡ 2
unfolding tracing
both_made = refl
