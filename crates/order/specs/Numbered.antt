-- Numbers as positions (02, C-19): the number that an event has by its position, the numbered events that calls hand back, and what it is that both agree.
use Rattle.std.specs.Prelude.{◌≡◌, Bool, true, false, not, ◌&&◌, ◌||◌, List, [], ◌∷◌, ◌++◌, map, ℕ, ◌+◌, ◌/◌, ◌%◌, ◌^◌, ◌≤◌, eqb, length}
use Rattle.rules.specs.Device.{Device, Call, level, poll, read, write, drain, Value, none, some, step}
use Rattle.rules.specs.Numbering.{Numbers, Numbered, with_numbers, numbers_after, drained_with, value_with}
use Rattle.rules.specs.Account.{tally}
use Rattle.histories.specs.Demands.{as_event}
use Rattle.order.specs.Fates.{Placed, is_returned, is_kept, is_dropped, events_made, with_fate}

-- ---- by position

-- the number of the event at position p, where the history began with the number `start`: 16 bits, and after 65,535 comes 0 (02, C-19)
abbrev pub number_at : ℕ → ℕ → ℕ
number_at start p = (start + p) % 2 ^ 16

-- an event made, as it is handed back: its vector, whether it is an assert, and its number (02, C-19)
abbrev pub numbered_from : ℕ → Placed → Numbered
numbered_from start x = record { event = as_event x.event; number = number_at start x.position }

abbrev pub all_from : ℕ → List Placed → List Numbered
all_from start xs = map (numbered_from start) xs

-- ---- where a history begins

-- none waits: every event that is handed back later was made later
abbrev pub NoneWaits : Device → Type 0
NoneWaits d = d.ring.waiting ≡ []

-- ---- handed back by calls

-- the event in the value of a call that returns asserts (true) or deasserts: the vector in the low byte, the number in bits 16 to 31 (02, C-19)
abbrev pub in_value : Bool → Value → List Numbered
in_value b none = []
in_value b (some v) = record { event = record { vector = v % 256; asserted = b }; number = v / 2 ^ 16 } ∷ []

-- the event that a call returns: lowering an input a deassert, raising and polling it an assert (01, Inputs)
abbrev pub returned_of : Device → Numbers → Call → List Numbered
returned_of d s (level n b) = in_value b (value_with d s (level n b))
returned_of d s (poll n) = in_value true (value_with d s (poll n))
returned_of d s (read w o) = []
returned_of d s (write w o v) = []
returned_of d s (drain k) = []

-- all that calls return and drain, one after another, in order
unfoldable pub returned_through : Device → Numbers → List Call → List Numbered
returned_through d s [] = []
returned_through d s (c ∷ cs) = returned_of d s c ++ returned_through (step d c).after (numbers_after d s c) cs

unfoldable pub drained_through : Device → Numbers → List Call → List Numbered
drained_through d s [] = []
drained_through d s (c ∷ cs) = drained_with d s c ++ drained_through (step d c).after (numbers_after d s c) cs

-- the events that wait in a device, each with its number
abbrev pub waiting_with : Device → Numbers → List Numbered
waiting_with d s = with_numbers d.ring.waiting s.waiting

-- some event of a list has the number n
abbrev pub some_has : ℕ → List Numbered → Bool
some_has n [] = false
some_has n (x ∷ xs) = eqb x.number n || some_has n xs

-- ---- that both agree

-- calls lead from the device d with the numbers s to the device e with the numbers t, and these are the events that they returned and drained (02, C-19)
pub record InOrder (d : Device) (s : Numbers) (cs : List Call) (back drained : List Numbered) (e : Device) (t : Numbers) : Type 0 where
  -- what they returned are the events made that were returned, in the order of making, each with the number of its position
  pub returned : back ≡ all_from s.next (with_fate is_returned (events_made d cs))
  -- what they drained, and then what waits at last, is what waited at first, and then the events made that were kept, each with the number of its position
  pub drained_or_wait : drained ++ waiting_with e t ≡ waiting_with d s ++ all_from s.next (with_fate is_kept (events_made d cs))
  -- each event that waits at last has one number
  pub paired : length t.waiting ≡ length e.ring.waiting
  -- the next number is that of the next position
  pub next : t.next ≡ number_at s.next (length (events_made d cs))
  -- whatever is counted of events with numbers, those returned, drained and dropped and those that wait at last come to all that were made and those that waited at first
  pub account : (q : Numbered → Bool)
      → tally q back + tally q drained + tally q (all_from s.next (with_fate is_dropped (events_made d cs))) + tally q (waiting_with e t)
      ≡ tally q (all_from s.next (events_made d cs)) + tally q (waiting_with d s)
  -- where none waited at first and at most 65,536 were made, the numbers missing among those handed back are exactly those of the dropped and of the waiting events
  pub missing : d.ring.waiting ≡ [] → length (events_made d cs) ≤ 65536
      → (n : ℕ) → (some_has n (all_from s.next (events_made d cs)) && not (some_has n back || some_has n drained))
      ≡ (some_has n (all_from s.next (with_fate is_dropped (events_made d cs))) || some_has n (waiting_with e t))
