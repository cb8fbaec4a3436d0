-- Small days computed, so that it is seen what the definitions say.
use Rattle.basics.proofs.Prelude.{◌≡◌, refl, true, false, List, [], ◌∷◌, ◌++◌, map, ℕ, drop, replicate}
use Rattle.rules.specs.{Map.cell_at, Access.byte, Access.dword, Device.level, Device.write, Account.tally}
use Rattle.plain.{specs.Events.as_loaded, specs.Plain.Engine, specs.Sequence.Item, specs.Sequence.call, specs.Sequence.refused, proofs.laws.Plainly.plainly}
use Rattle.traces.{specs.Trace.record_of, specs.Played.request_of, proofs.laws.Computed.tracing}
use Rattle.sheets.specs.{Day.item_of, Day.begun, Day.number, Day.moments, Day.day_from, Waits.End, Waits.end_from, Waits.waits, Waits.greatest, Waits.answered, Waits.withdrawn, Waits.still_open}
use Rattle.sheets.specs.Sheeting.{sheet_leaves, sheeting}
use Rattle.calls.specs.Calls as area
use Rattle.sheets.specs.Sheet.{Row, row_of, total_below, rows_below, bytes_of_row, sheet_bytes}

-- one name that opens what has to compute
unfoldable pub sheeted : ℕ
unfolding plainly cell_at tally begun moments end_from waits greatest row_of total_below rows_below
sheeted = 0

unfoldable testing : ℕ
unfolding tracing sheeting area.answered
testing = 0

-- ---- waits of input 5, from reset, where all are masked

abbrev raise : Item
raise = call (level 5 true)

abbrev unmask : Item
unmask = call (write dword 0x20 0xffffffdf)

abbrev waits_on : List Item → List End
waits_on xs = waits 5 (moments begun xs)

-- records are numbered from 0, a refused one too
numbered_from_0 : map number (moments begun (raise ∷ refused ∷ unmask ∷ [])) ≡ 0 ∷ 1 ∷ 2 ∷ []
unfolding sheeted
numbered_from_0 = refl

-- a second raise, while the first one's wait is open, begins no other
one_at_a_time : waits_on (raise ∷ raise ∷ raise ∷ []) ≡ still_open ∷ []
unfolding sheeted
one_at_a_time = refl

-- the raise itself makes the assert
at_once : waits_on (unmask ∷ raise ∷ []) ≡ answered 0 ∷ []
unfolding sheeted
at_once = refl

-- the second raise found it latched, and the refused record has its number
from_the_first : waits_on (raise ∷ raise ∷ refused ∷ unmask ∷ []) ≡ answered 3 ∷ []
unfolding sheeted
from_the_first = refl

-- a lowering comes first; CLEAR does, by a Byte too; another bit of that half withdraws nothing
by_lowering : waits_on (raise ∷ call (level 5 false) ∷ unmask ∷ []) ≡ withdrawn ∷ []
unfolding sheeted
by_lowering = refl

by_clear : waits_on (raise ∷ call (write dword 0x80 0x20) ∷ unmask ∷ []) ≡ withdrawn ∷ []
unfolding sheeted
by_clear = refl

by_a_byte : waits_on (raise ∷ call (write byte 0x80 0x20) ∷ raise ∷ call (write byte 0x80 0x40) ∷ []) ≡ withdrawn ∷ still_open ∷ []
unfolding sheeted
by_a_byte = refl

-- a write to ISR ends nothing, nor does masking, though its deassert is made: the day does
by_the_day : waits_on (raise ∷ call (write dword 0x3a0 0x20) ∷ unmask ∷ call (write dword 0x20 0xffffffff) ∷ []) ≡ still_open ∷ []
unfolding sheeted
by_the_day = refl

-- a raise that finds it in service though not latched begins none: ISR was written, and the poll asks nothing of it
not_in_service : waits_on (unmask ∷ call (write dword 0x3a0 0x20) ∷ raise ∷ []) ≡ []
unfolding sheeted
not_in_service = refl

greatest_of_them : greatest (answered 3 ∷ withdrawn ∷ answered 7 ∷ answered 0 ∷ still_open ∷ []) ≡ 7
unfolding sheeted
greatest_of_them = refl

-- ---- rows

-- a raise of input 69 is refused and counts as none; so do an access behind the window and one of no width
refused_record : map item_of (record_of (1 ∷ 69 ∷ replicate 14 0) ∷ record_of (5 ∷ 8 ∷ 255 ∷ 255 ∷ replicate 12 0) ∷ record_of (5 ∷ 3 ∷ replicate 14 0) ∷ []) ≡ replicate 3 refused
unfolding request_of
refused_record = refl

refused_raise : (row_of (day_from begun (refused ∷ raise ∷ [])) 5).raises ≡ 1
unfolding sheeted
refused_raise = refl

-- 16 wait, and input 3 is in service: its deassert is offered and dropped, and so is its assert later
abbrev full : Engine
full = record {
  machines = λ n. record { latched = true; masked = false; in_service = true };
  vectors = [];
  stored = begun.stored;
  queue = record { offered = replicate 16 (as_loaded (record { vector = 0; asserted = true })); drained = 0; brought = 0 };
  call = 0;
  history = [];
}

-- the same with all masked and none latched
abbrev shut : Engine
shut = record { machines = λ n. record { latched = false; masked = true; in_service = false }; vectors = []; stored = full.stored; queue = full.queue; call = 0; history = [] }

dropped_offered : row_of (day_from full (call (write dword 0x20 8) ∷ call (write dword 0x20 0) ∷ call (level 3 false) ∷ [])) 3
    ≡ record { raises = 0; lowers = 1; asserts = 1; deasserts = 2; returned = 1; offered = 2; dropped = 2; greatest = 0; withdrawn = 0; still_open = 0 }
unfolding sheeted
dropped_offered = refl

-- an assert ends its wait, kept or dropped: 16 wait, and input 3, masked till then, is asserted at the third record
dropped_answers : waits 3 (moments shut (call (level 3 true) ∷ refused ∷ call (write dword 0x20 0) ∷ [])) ≡ answered 2 ∷ []
unfolding sheeted
dropped_answers = refl

-- ---- the total

abbrev some : ℕ → Row
some n = record { raises = 1; lowers = 2; asserts = 3; deasserts = 4; returned = 5; offered = 6; dropped = 7; greatest = n; withdrawn = 8; still_open = 9 }

total_of_all : total_below 64 some
    ≡ record { raises = 64; lowers = 128; asserts = 192; deasserts = 256; returned = 320; offered = 384; dropped = 448; greatest = 63; withdrawn = 512; still_open = 576 }
unfolding sheeted
total_of_all = refl

-- the last of the 65 rows is the total
last_row : drop 2560 (sheet_bytes 4 some) ≡ bytes_of_row 4 (total_below 64 some)
unfolding sheeted
last_row = refl

-- ---- the refusals of the exported call

-- no bytes at all are no trace: 12, and the sheet stays; but 7 before it for a sheet of 2,599 bytes or an answer area of 15
no_trace : sheeting [] (replicate 2600 7) (replicate 17 9) ≡ sheet_leaves 12 (replicate 2600 7) ((12 ∷ replicate 15 0) ++ (9 ∷ []))
unfolding testing
no_trace = refl

room_first : (sheeting [] (replicate 2599 7) (replicate 16 9)).number ∷ (sheeting [] (replicate 2600 7) (replicate 15 9)).number ∷ [] ≡ 7 ∷ 7 ∷ []
unfolding testing
room_first = refl

-- one record of kind 7: 13, and the number of the record
bad_record : (sheeting ((1 ∷ 0 ∷ 6 ∷ 0 ∷ 1 ∷ 0 ∷ []) ++ (7 ∷ replicate 15 0)) (replicate 2600 7) (replicate 16 9)).answer ≡ 13 ∷ 1 ∷ replicate 14 0
unfolding testing
bad_record = refl
