-- The numbers of events: a layer beside the device, moved by what a call makes and drains; the device does not know them (02, C-19).
use Rattle.std.specs.Prelude.{◌≡◌, Bool, cond, ◌&&◌, List, [], ◌∷◌, ◌++◌, map, ℕ, zero, suc, ◌+◌, ◌*◌, ◌%◌, ◌^◌, ◌<◌, eqb, ltb, length, take, drop, get_or}
use Rattle.basics.specs.Numbers.{Twos, number_of, bytes_of}
use Rattle.rules.specs.Lines.{Made}
use Rattle.rules.specs.Ring.{capacity, flag, Event}
use Rattle.rules.specs.Device.{Device, Call, level, poll, read, write, drain, Value, none, some, step, value, up_from}

-- numbers have 16 bits: after 65,535 comes 0 (02, C-19)
abbrev pub following : ℕ → ℕ
following n = (n + 1) % 2 ^ 16

-- the number that the next event gets, and those of the waiting events, oldest first (02, C-19)
pub record Numbers : Type 0 where
  pub next : ℕ
  pub waiting : List ℕ

-- n waiting events numbered from 0, and the next number after them; none wait after reset (02, C-19)
abbrev pub from_zero : ℕ → Numbers
from_zero n = record { next = n; waiting = up_from 0 n }

-- the sizes that numbers have beside a device: 16 bits, and one for each waiting event
pub record WellNumbered (d : Device) (s : Numbers) : Type 0 where
  pub next : s.next < 2 ^ 16
  pub each : (i : ℕ) → get_or s.waiting i 0 < 2 ^ 16
  pub waiting : length s.waiting ≡ length d.ring.waiting

-- ---- events made

-- an event made takes the next number, returned, kept and dropped ones alike; one that is offered and kept by the ring waits with it (02, C-19)
abbrev pub takes : Numbers → Bool → Numbers
takes s offered =
    record {
      next = following s.next;
      waiting = cond (offered && ltb (length s.waiting) capacity) (s.waiting ++ (s.next ∷ [])) s.waiting;
    }

-- events, in the order of making
unfoldable pub takes_all : Numbers → List Made → Numbers
takes_all s [] = s
takes_all s (m ∷ ms) = takes_all (takes s m.offered) ms

-- a vector with a number in bits 16 to 31 (02, C-19)
abbrev pub with_number : ℕ → ℕ → ℕ
with_number n v = v + 2 ^ 16 * n

-- the vector of the event that was returned, with its number, if there is one (02, C-19)
abbrev pub returned_with : Numbers → List Made → Value
returned_with s [] = none
returned_with s (m ∷ ms) = cond m.offered (returned_with (takes s m.offered) ms) (some (with_number s.next m.vector))

-- ---- events drained

-- an event with its number, as it is drained (02, C-19)
pub record Numbered : Type 0 where
  pub event : Event
  pub number : ℕ

-- events, each with its number
abbrev pub with_numbers : List Event → List ℕ → List Numbered
with_numbers [] ns = []
with_numbers (e ∷ es) [] = []
with_numbers (e ∷ es) (n ∷ ns) = record { event = e; number = n } ∷ with_numbers es ns

-- a drained event has four bytes: vector, flag, number (02, C-19)
abbrev pub drained_length : ℕ
drained_length = 4

abbrev pub quads_of : List Numbered → List ℕ
quads_of [] = []
quads_of (x ∷ xs) = x.event.vector ∷ flag x.event.asserted ∷ (bytes_of 2 x.number ++ quads_of xs)

-- the first n events that such bytes spell
abbrev pub quads_in : ℕ → List ℕ → List Numbered
quads_in zero l = []
quads_in (suc n) [] = []
quads_in (suc n) (v ∷ []) = []
quads_in (suc n) (v ∷ f ∷ []) = []
quads_in (suc n) (v ∷ f ∷ a ∷ []) = []
quads_in (suc n) (v ∷ f ∷ a ∷ b ∷ l) = record { event = record { vector = v; asserted = eqb f 1 }; number = number_of (a ∷ b ∷ []) } ∷ quads_in n l

-- events without their numbers
abbrev pub events_in : List Numbered → List Event
events_in xs = map (λ x. x.event) xs

-- a number has two bytes in an image too
abbrev pub number_twos : Twos ℕ
number_twos = record { low = λ n. get_or (bytes_of 2 n) 0 0; high = λ n. get_or (bytes_of 2 n) 1 0; made = λ a b. number_of (a ∷ b ∷ []) }

-- ---- a call

-- the room of a drain; any other call drains nothing
abbrev pub room_of : Call → ℕ
room_of (level n b) = 0
room_of (poll n) = 0
room_of (read w o) = 0
room_of (write w o v) = 0
room_of (drain k) = k

-- a drain takes the oldest k away
abbrev pub fewer : Numbers → ℕ → Numbers
fewer s k = record { next = s.next; waiting = drop k s.waiting }

-- the numbers after a call: its events take theirs, and then its drain takes away as many as it has room for
unfoldable pub numbers_after : Device → Numbers → Call → Numbers
numbers_after d s c = fewer (takes_all s (step d c).made) (room_of c)

-- the events that it drains, each with its number
unfoldable pub drained_with : Device → Numbers → Call → List Numbered
drained_with d s c = with_numbers (step d c).drained (take (room_of c) s.waiting)

-- its value; a returned vector has its number with it (02, C-19)
unfoldable pub value_with : Device → Numbers → Call → Value
value_with d s (level n b) = returned_with s (step d (level n b)).made
value_with d s (poll n) = returned_with s (step d (poll n)).made
value_with d s (read w o) = value d (read w o)
value_with d s (write w o v) = value d (write w o v)
value_with d s (drain k) = value d (drain k)
