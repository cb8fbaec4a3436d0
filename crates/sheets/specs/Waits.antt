-- The waits of an input: each begins at a raise that found it neither latched nor in service, and ends at its assert, at CLEAR or a lowering, or with the day.
use Rattle.std.specs.Prelude.{Bool, true, false, cond, not, ◌&&◌, ◌||◌, List, [], ◌∷◌, ◌++◌, ℕ, ◌+◌, ◌-◌, ◌%◌, max, eqb, ltb}
use Rattle.basics.specs.Numbers.{byte_of, with_byte}
use Rattle.basics.specs.Inputs.{half}
use Rattle.rules.specs.Map as map
use Rattle.rules.specs.Map.{Register, Cell, cell_at, in_byte_area}
use Rattle.rules.specs.Access.{Width, byte, word, dword, qword}
use Rattle.rules.specs.Device.{Call, level, poll, read, write, drain}
use Rattle.rules.specs.Account.{tally}
use Rattle.plain.specs.Events.{Note}
use Rattle.plain.specs.Plain.{Engine, Brought, nothing, bit, brings}
use Rattle.plain.specs.Sequence.{Item, call, load, refused}
use Rattle.sheets.specs.Day.{Moment, after, number, made}

-- ---- what a record did to the input n

-- a done call that raises (true) or lowers n
abbrev pub moves_level : ℕ → Bool → Call → Bool
moves_level n b (level m true) = b && eqb m n
moves_level n b (level m false) = not b && eqb m n
moves_level n b (poll m) = false
moves_level n b (read w o) = false
moves_level n b (write w o v) = false
moves_level n b (drain k) = false

abbrev pub is_level : ℕ → Bool → Item → Bool
is_level n b (call c) = moves_level n b c
is_level n b (load d) = false
is_level n b refused = false

abbrev pub raises : ℕ → Moment → Bool
raises n m = is_level n true m.item

abbrev pub lowers : ℕ → Moment → Bool
lowers n m = is_level n false m.item

-- n is neither latched nor in service
abbrev pub is_idle : ℕ → Engine → Bool
is_idle n e = not (e.machines n).latched && not (e.machines n).in_service

-- a raise that found n so: here a wait begins
abbrev pub begins : ℕ → Moment → Bool
begins n m = raises n m && is_idle n m.before

-- an assert, and a deassert, of n
abbrev pub assert_of : ℕ → Note → Bool
assert_of n x = x.asserted && eqb x.input n

abbrev pub deassert_of : ℕ → Note → Bool
deassert_of n x = not x.asserted && eqb x.input n

-- it made an assert of n, returned, kept or dropped
abbrev pub asserts : ℕ → Moment → Bool
asserts n m = ltb 0 (tally (assert_of n) (made m))

-- a half of a register is written: to CLEAR, with a 1 in n's place (01, Inputs: CLEAR)
abbrev pub is_one : Brought → Bool
is_one nothing = false
is_one (bit b) = b

abbrev pub clears_half : ℕ → ℕ → Bool → Register → Bool
clears_half n v h map.id = false
clears_half n v h map.mask = false
clears_half n v h map.clear = is_one (brings h v n)
clears_half n v h map.irr = false
clears_half n v h map.isr = false
clears_half n v h (map.plain p) = false

abbrev pub clears_cell : ℕ → ℕ → Cell → Bool
clears_cell n v (map.half_of r h) = clears_half n v h r
clears_cell n v map.bytes = false
clears_cell n v map.nothing = false

-- a Dword, and a Byte: CLEAR reads as 0, so that all the other bits of its Dword are written as 0 (01, The four widths)
abbrev pub clears_dword : ℕ → ℕ → ℕ → Bool
clears_dword n o v = clears_cell n v (cell_at o)

abbrev pub clears_byte : ℕ → ℕ → ℕ → Bool
clears_byte n o v = not (in_byte_area o) && clears_dword n (o - o % 4) (with_byte 0 (o % 4) v)

abbrev pub clears_by : ℕ → Width → ℕ → ℕ → Bool
clears_by n byte o v = clears_byte n o (byte_of v 0)
clears_by n word o v = clears_byte n o (byte_of v 0) || clears_byte n (o + 1) (byte_of v 1)
clears_by n dword o v = clears_dword n o (half false v)
clears_by n qword o v = clears_dword n o (half false v) || clears_dword n (o + 4) (half true v)

-- a done call lowers n, or writes a 1 for it to CLEAR (02, C-21)
abbrev pub takes_it : ℕ → Call → Bool
takes_it n (level m true) = false
takes_it n (level m false) = eqb m n
takes_it n (poll m) = false
takes_it n (read w o) = false
takes_it n (write w o v) = clears_by n w o v
takes_it n (drain k) = false

abbrev pub is_taken : ℕ → Item → Bool
is_taken n (call c) = takes_it n c
is_taken n (load d) = false
is_taken n refused = false

abbrev pub takes_back : ℕ → Moment → Bool
takes_back n m = is_taken n m.item

-- ---- how a wait ends

-- with the assert, and so many records after the raise; taken back; or it lasts when the day is over
pub data End : Type 0 where
  answered : ℕ → End
  withdrawn still_open : End

-- the end of a wait that began at the record k, by the records from there on
unfoldable pub end_from : ℕ → ℕ → List Moment → End
end_from n k [] = still_open
end_from n k (m ∷ ms) = cond (asserts n m) (answered (number m - k)) (cond (takes_back n m) withdrawn (end_from n k ms))

-- the ends of all waits of n, in the order in which they began
unfoldable pub waits : ℕ → List Moment → List End
waits n [] = []
waits n (m ∷ ms) = cond (begins n m) (end_from n (number m) (m ∷ ms) ∷ []) [] ++ waits n ms

abbrev pub is_answered : End → Bool
is_answered (answered k) = true
is_answered withdrawn = false
is_answered still_open = false

abbrev pub is_withdrawn : End → Bool
is_withdrawn (answered k) = false
is_withdrawn withdrawn = true
is_withdrawn still_open = false

abbrev pub is_open : End → Bool
is_open (answered k) = false
is_open withdrawn = false
is_open still_open = true

-- how many records a wait took, 0 where no assert came
abbrev pub lasted : End → ℕ
lasted (answered k) = k
lasted withdrawn = 0
lasted still_open = 0

-- the greatest of them, 0 where there is none
unfoldable pub greatest : List End → ℕ
greatest [] = 0
greatest (w ∷ ws) = max (lasted w) (greatest ws)
