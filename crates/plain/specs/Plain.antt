-- The plain engine: sixty-four machines, the stored registers and bytes beside them, an unbounded list of the events offered, and the history of the events made.
-- Each call as the machines take it. Only a write to MASK looks across inputs, to find the lowest that it wakes. Of the rules it uses the register map, calls and
-- widths, the halves and bytes of numbers, and the record of what is only stored; nothing of their lines, and of their ring an event's two fields, its size and its stop.
use Rattle.std.specs.Prelude.{Bool, true, false, cond, not, ◌&&◌, List, [], ◌∷◌, ◌++◌, map, ℕ, zero, suc, ◌+◌, ◌-◌, ◌*◌, ◌/◌, ◌%◌, ◌^◌, eqb, length, take, get_or, set}
use Rattle.basics.specs.Numbers.{number_of, byte_of, with_byte}
use Rattle.basics.specs.Inputs.{half, with_half}
use Rattle.rules.specs.Ring.{Event}
use Rattle.rules.specs.Core.{Stored, plain, with_plain, with_routes}
use Rattle.rules.specs.Map as map
use Rattle.rules.specs.Map.{Register, Cell, cell_at, routes_at, vectors_at, in_routes, in_vectors, in_byte_area}
use Rattle.rules.specs.Access.{Width, byte, word, dword, qword, id_value}
use Rattle.rules.specs.Device.{Call, level, poll, read, write, drain, Value, none, some}
use Rattle.plain.specs.Machine.{Machine, Signal, quiet, asserts, deasserts, Stepped, rests, polls, raises, lowers, masks, unmasks, could_wake, serves}
use Rattle.plain.specs.Events.{input, Queue, dropped_in, waiting, has_room, with_offer, with_drained, as_loaded, Fate, returned, kept, dropped, Note}

-- ---- the engine

pub record Engine : Type 0 where
  pub machines : ℕ → Machine
  pub vectors : List ℕ
  pub stored : Stored
  pub queue : Queue
  -- the number of the call that comes next, counted from 0 at the load, and the events made since the load
  pub call : ℕ
  pub history : List Note

-- a load starts afresh, whatever was before (02, C-13)
abbrev pub started_with : Engine → (ℕ → Machine) → (vectors : List ℕ) → Stored → (waiting : List Event) → (drops : ℕ) → Engine
started_with old ms vs s es k =
    record { machines = ms; vectors = vs; stored = s; queue = record { offered = map as_loaded es; drained = 0; brought = k }; call = 0; history = [] }

-- the engine with one part replaced
abbrev pub with_machines : Engine → (ℕ → Machine) → Engine
with_machines e ms = record { machines = ms; vectors = e.vectors; stored = e.stored; queue = e.queue; call = e.call; history = e.history }

abbrev pub with_vectors : Engine → List ℕ → Engine
with_vectors e vs = record { machines = e.machines; vectors = vs; stored = e.stored; queue = e.queue; call = e.call; history = e.history }

abbrev pub with_stored : Engine → Stored → Engine
with_stored e s = record { machines = e.machines; vectors = e.vectors; stored = s; queue = e.queue; call = e.call; history = e.history }

abbrev pub with_queue : Engine → Queue → Engine
with_queue e q = record { machines = e.machines; vectors = e.vectors; stored = e.stored; queue = q; call = e.call; history = e.history }

-- the call is over: the next one has the next number
abbrev pub counted : Engine → Engine
counted e = record { machines = e.machines; vectors = e.vectors; stored = e.stored; queue = e.queue; call = e.call + 1; history = e.history }

-- ---- steps of the machines

-- an input that is heard, with an assert (true) or a deassert
pub record Heard : Type 0 where
  pub input : ℕ
  pub asserted : Bool

abbrev pub in_front : ℕ → Signal → List Heard → List Heard
in_front n quiet hs = hs
in_front n asserts hs = record { input = n; asserted = true } ∷ hs
in_front n deasserts hs = record { input = n; asserted = false } ∷ hs

-- what is heard of the k inputs from n on, lowest first
unfoldable pub heard_from : ℕ → ℕ → (ℕ → Signal) → List Heard
heard_from n zero s = []
heard_from n (suc k) s = in_front n (s n) (heard_from (suc n) k s)

-- each input's step, by its number; what is heard of the sixty-four
abbrev pub Steps : Type 0
Steps = ℕ → Machine → Stepped

abbrev pub heard : Steps → Engine → List Heard
heard f e = heard_from 0 64 (λ n. (f n (e.machines n)).signal)

-- one input takes a step, and the others rest
abbrev pub at : ℕ → (Machine → Stepped) → Steps
at n f k m = cond (eqb k n) (f m) (rests m)

-- the vector of an event is read as it is made (01, Inputs)
abbrev pub noted : Engine → Fate → Heard → Note
noted e f h = record { input = h.input; call = e.call; vector = get_or e.vectors h.input 0; asserted = h.asserted; fate = f }

-- the engine with another list, and an event more in the history
abbrev pub with_note : Engine → Queue → Note → Engine
with_note e q n =
    record { machines = e.machines; vectors = e.vectors; stored = e.stored; queue = q; call = e.call; history = e.history ++ (n ∷ []) }

-- an event is offered: it is in the list and in the history
abbrev pub offers : Engine → Heard → Engine
offers e h =
    let x : Event = record { vector = get_or e.vectors h.input 0; asserted = h.asserted } in
    with_note e (with_offer e.queue (input h.input) x) (noted e (cond (has_room e.queue) kept dropped) h)

-- an event is returned to the caller: it is in the history, and not in the list (01, Inputs)
abbrev pub returns : Engine → Heard → Engine
returns e h = with_note e e.queue (noted e returned h)

-- one after another
unfoldable pub each_heard : (Engine → Heard → Engine) → Engine → List Heard → Engine
each_heard say e [] = e
each_heard say e (h ∷ hs) = each_heard say (say e h) hs

-- every machine takes its step, and what is heard is returned or offered, lowest input first
abbrev pub stepping : (Engine → Heard → Engine) → Steps → Engine → Engine
stepping say f e = each_heard say (with_machines e (λ n. (f n (e.machines n)).after)) (heard f e)

-- ---- a half of a register, as the machines take it

-- a half that is written brings one bit to each of its 32 inputs, the low bit to the lowest; to the others it brings nothing
pub data Brought : Type 0 where
  nothing : Brought
  bit : Bool → Brought

abbrev pub brings : (high : Bool) → ℕ → ℕ → Brought
brings high v n = cond (eqb (n / 32) (cond high 1 0)) (bit (eqb (v / 2 ^ (n % 32) % 2) 1)) nothing

-- CLEAR: an input that is brought a 1 is cleared (01, Inputs: CLEAR)
abbrev pub cleared_by : Brought → Machine → Stepped
cleared_by nothing m = rests m
cleared_by (bit true) m = lowers m
cleared_by (bit false) m = rests m

-- MASK: a 0 unmasks, a 1 masks (01, Inputs: MASK)
abbrev pub unmasked_by : (lowest : Bool) → Brought → Machine → Stepped
unmasked_by lowest nothing m = rests m
unmasked_by lowest (bit true) m = rests m
unmasked_by lowest (bit false) m = unmasks lowest m

abbrev pub masked_by : Brought → Machine → Stepped
masked_by nothing m = rests m
masked_by (bit true) m = masks m
masked_by (bit false) m = rests m

-- a 0 could wake the machine
abbrev pub wakable : Brought → Machine → Bool
wakable nothing m = false
wakable (bit true) m = false
wakable (bit false) m = could_wake m

-- ISR: service becomes what is brought (01, Window and register map)
abbrev pub served_by : Brought → Machine → Stepped
served_by nothing m = rests m
served_by (bit b) m = serves b m

-- the one look across: of the k inputs from n on the lowest that has f, if one has
pub data Found : Type 0 where
  nobody : Found
  found : ℕ → Found

unfoldable pub lowest_from : ℕ → ℕ → (ℕ → Bool) → Found
lowest_from n zero f = nobody
lowest_from n (suc k) f = cond (f n) (found n) (lowest_from (suc n) k f)

abbrev pub is_it : Found → ℕ → Bool
is_it nobody n = false
is_it (found m) n = eqb n m

-- MASK: of those that could wake only the lowest does; then those that are brought a 1 are masked; all is offered (01, Inputs: MASK)
abbrev pub remasked_by : Found → Bool → ℕ → Engine → Engine
remasked_by lowest h v e =
    stepping offers (λ n. masked_by (brings h v n)) (stepping offers (λ n. unmasked_by (is_it lowest n) (brings h v n)) e)

abbrev pub remasked : Bool → ℕ → Engine → Engine
remasked h v e = remasked_by (lowest_from 0 64 (λ n. wakable (brings h v n) (e.machines n))) h v e

-- ---- reading

-- 2 ^ n added up over those of the inputs below k that have f: the one place where machines become a number
unfoldable pub number_below : ℕ → (ℕ → Bool) → ℕ
number_below zero f = 0
number_below (suc k) f = number_below k f + cond (f k) (2 ^ k) 0

abbrev pub number : (ℕ → Bool) → ℕ
number f = number_below 64 f

-- a register as it reads: CLEAR as 0, ISR without the masked inputs (01, Window and register map)
unfoldable pub value_of : Engine → Register → ℕ
value_of e map.id = id_value
value_of e map.mask = number (λ n. (e.machines n).masked)
value_of e map.clear = 0
value_of e map.irr = number (λ n. (e.machines n).latched)
value_of e map.isr = number (λ n. (e.machines n).in_service && not (e.machines n).masked)
value_of e (map.plain p) = plain e.stored p

-- a route or vector byte, and 0 at any other offset (01, The four widths: Byte)
unfoldable pub entry : Engine → ℕ → ℕ
entry e o = cond (in_routes o) (get_or e.stored.routes (o - routes_at) 0) (cond (in_vectors o) (get_or e.vectors (o - vectors_at) 0) 0)

-- a Dword: a listed half, four bytes low first, or 0 (01, The four widths: Dword)
unfoldable pub read_cell : Engine → ℕ → Cell → ℕ
read_cell e o (map.half_of r h) = half h (value_of e r)
read_cell e o map.bytes = number_of (entry e o ∷ entry e (o + 1) ∷ entry e (o + 2) ∷ entry e (o + 3) ∷ [])
read_cell e o map.nothing = 0

unfoldable pub read_dword : Engine → ℕ → ℕ
read_dword e o = read_cell e o (cell_at o)

-- a Byte: in 0x100..0x39f a route or vector byte or 0, elsewhere a byte of the aligned Dword (01, The four widths: Byte)
unfoldable pub read_byte : Engine → ℕ → ℕ
read_byte e o = cond (in_byte_area o) (entry e o) (byte_of (read_dword e (o - o % 4)) (o % 4))

-- the four widths (01)
unfoldable pub read_at : Engine → Width → ℕ → ℕ
read_at e byte o = read_byte e o
read_at e word o = read_byte e o + 2 ^ 8 * read_byte e (o + 1)
read_at e dword o = read_dword e o
read_at e qword o = read_dword e o + 2 ^ 32 * read_dword e (o + 4)

-- ---- writing

-- a half of a register: ID and IRR ignore it, five registers only store it (01, Window and register map)
unfoldable pub write_half : Engine → Register → Bool → ℕ → Engine
write_half e map.id h v = e
write_half e map.mask h v = remasked h v e
write_half e map.clear h v = stepping offers (λ n. cleared_by (brings h v n)) e
write_half e map.irr h v = e
write_half e map.isr h v = stepping offers (λ n. served_by (brings h v n)) e
write_half e (map.plain p) h v = with_stored e (with_plain e.stored p (with_half h (plain e.stored p) v))

-- a route or vector byte, and nothing at any other offset (01, The four widths: Byte)
unfoldable pub write_entry : Engine → ℕ → ℕ → Engine
write_entry e o v =
    cond (in_routes o) (with_stored e (with_routes e.stored (set e.stored.routes (o - routes_at) v)))
    (cond (in_vectors o) (with_vectors e (set e.vectors (o - vectors_at) v)) e)

-- a Dword: a listed half, four bytes low first, or nothing (01, The four widths: Dword)
unfoldable pub write_cell : Engine → ℕ → ℕ → Cell → Engine
write_cell e o v (map.half_of r h) = write_half e r h v
write_cell e o v map.bytes =
    write_entry (write_entry (write_entry (write_entry e o (byte_of v 0)) (o + 1) (byte_of v 1)) (o + 2) (byte_of v 2)) (o + 3) (byte_of v 3)
write_cell e o v map.nothing = e

unfoldable pub write_dword : Engine → ℕ → ℕ → Engine
write_dword e o v = write_cell e o v (cell_at o)

-- a Byte: in 0x100..0x39f a route or vector byte or nothing, elsewhere the aligned Dword as read with that byte replaced (01, The four widths: Byte)
unfoldable pub write_byte : Engine → ℕ → ℕ → Engine
write_byte e o v = cond (in_byte_area o) (write_entry e o v) (write_dword e (o - o % 4) (with_byte (read_dword e (o - o % 4)) (o % 4) v))

-- the four widths; values lose their bits above the width (01)
unfoldable pub write_at : Engine → Width → ℕ → ℕ → Engine
write_at e byte o v = write_byte e o (byte_of v 0)
write_at e word o v = write_byte (write_byte e o (byte_of v 0)) (o + 1) (byte_of v 1)
write_at e dword o v = write_dword e o (half false v)
write_at e qword o v = write_dword (write_dword e o (half false v)) (o + 4) (half true v)

-- ---- calls

-- the vector of what is heard first, if anything is
abbrev pub vector_of : Engine → List Heard → Value
vector_of e [] = none
vector_of e (h ∷ hs) = some (get_or e.vectors h.input 0)

-- how many events a write dropped: those dropped after it less those before
abbrev pub lost_between : Engine → Engine → ℕ
lost_between e f = length (dropped_in f.queue.offered) - length (dropped_in e.queue.offered)

-- what a call does: the engine after it, its value, the events drained
pub record Gave : Type 0 where
  pub after : Engine
  pub value : Value
  pub drained : List Event

-- nothing is given, and nothing is drained
abbrev pub idle : Engine → Gave
idle e = record { after = e; value = none; drained = [] }

-- a call of one input: the event is returned (01, Inputs)
abbrev pub asked : Engine → Steps → Gave
asked e f = record { after = counted (stepping returns f e); value = vector_of e (heard f e); drained = [] }

-- a call's value: the vector returned, the register read, the number of events dropped, the number drained (01, The boundary; 02, C-15)
unfoldable pub gives : Engine → Call → Gave
gives e (level n true) = asked e (at n raises)
gives e (level n false) = asked e (at n lowers)
gives e (poll n) = asked e (at n polls)
gives e (read w o) = record { after = counted e; value = some (read_at e w o); drained = [] }
gives e (write w o v) = let f = write_at e w o v in record { after = counted f; value = some (lost_between e f); drained = [] }
gives e (drain k) =
    let es = take k (waiting e.queue) in
    record { after = counted (with_queue e (with_drained e.queue k)); value = some (length es); drained = es }
