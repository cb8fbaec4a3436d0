-- Calls, loads and refused calls, one after another, as the plain engine and as the ported one take them, and what is seen of each.
use Rattle.std.specs.Prelude.{Bool, true, false, cond, List, [], ◌∷◌, ◌++◌, ℕ, ◌+◌, ◌/◌, ◌%◌, ◌^◌, eqb, ltb, length}
use Rattle.rules.specs.Lines.{Lines, Made}
use Rattle.rules.specs.Ring.{capacity, Event, Ring, offered}
use Rattle.rules.specs.Device.{Device, WellFormed, Call, Value, none, step, value}
use Rattle.plain.specs.Events.{input, Offered, waiting, drop_count, Fate, returned, kept, dropped, Note}
use Rattle.plain.specs.Machine.{Machine}
use Rattle.plain.specs.Plain.{Engine, started_with, counted, number, Gave, idle, gives}

-- ---- from a device and back

-- input n's machine, as the bits n of the three registers tell it (01, Inputs)
abbrev pub marked : ℕ → ℕ → Bool
marked x n = eqb (x / 2 ^ n % 2) 1

abbrev pub machine_in : Lines → ℕ → Machine
machine_in l n = record { latched = marked l.irr n; masked = marked l.mask n; in_service = marked l.isr n }

-- a load of a device (02, C-13)
unfoldable pub load_of : Engine → Device → Engine
load_of old d = started_with old (machine_in d.core.lines) d.core.vectors d.core.stored d.ring.waiting d.ring.drops

-- all that an engine shows, as a device has it: the machines' marks as three registers, what is stored, what waits, the drop count
abbrev pub shown : Engine → Device
shown e =
    record {
      core = record {
        lines = record { mask = number (λ n. (e.machines n).masked); irr = number (λ n. (e.machines n).latched); isr = number (λ n. (e.machines n).in_service) };
        vectors = e.vectors;
        stored = e.stored;
      };
      ring = record { waiting = waiting e.queue; drops = drop_count e.queue };
    }

-- ---- one after another

-- what happens to an engine: a call, a load of a device, a call that is refused
pub data Item : Type 0 where
  call : Call → Item
  load : Device → Item
  refused : Item

-- what is seen: the value, the events drained, and then all that the engine shows
pub record Seen : Type 0 where
  pub value : Value
  pub drained : List Event
  pub shows : Device

-- the ported engine: a refused call counts as no call (01, Saved image)
unfoldable pub ported_sees : Device → List Item → List Seen
ported_sees d [] = []
ported_sees d (call c ∷ xs) = record { value = value d c; drained = (step d c).drained; shows = (step d c).after } ∷ ported_sees (step d c).after xs
ported_sees d (load f ∷ xs) = record { value = none; drained = []; shows = f } ∷ ported_sees f xs
ported_sees d (refused ∷ xs) = record { value = none; drained = []; shows = d } ∷ ported_sees d xs

-- the plain engine: a refused call changes nothing, and has a number all the same (02, C-21)
abbrev pub takes : Engine → Item → Gave
takes e (call c) = gives e c
takes e (load d) = idle (load_of e d)
takes e refused = idle (counted e)

unfoldable pub plain_sees : Engine → List Item → List Seen
plain_sees e [] = []
plain_sees e (x ∷ xs) =
    let g = takes e x in
    record { value = g.value; drained = g.drained; shows = shown g.after } ∷ plain_sees g.after xs

-- the loads are of devices that an image can hold
unfoldable pub WellLoaded : List Item → Type 0
WellLoaded [] = Unit {0}
WellLoaded (call c ∷ xs) = WellLoaded xs
WellLoaded (load d ∷ xs) = WellFormed d × WellLoaded xs
WellLoaded (refused ∷ xs) = WellLoaded xs

-- the engine after all
unfoldable pub plain_after : Engine → List Item → Engine
plain_after e [] = e
plain_after e (x ∷ xs) = plain_after (takes e x).after xs

-- ---- the history, as the ported engine's events tell it

-- a ported event as the history notes it
abbrev pub note_of : (call : ℕ) → Fate → Made → Note
note_of k f m = record { input = m.input; call = k; vector = m.vector; asserted = m.asserted; fate = f }

-- the fate of an event that finds this ring
abbrev pub fate_in : Ring → Made → Fate
fate_in r m = cond m.offered (cond (ltb (length r.waiting) capacity) kept dropped) returned

-- the ring after it
abbrev pub ring_with : Ring → Made → Ring
ring_with r m = cond m.offered (offered r (record { vector = m.vector; asserted = m.asserted })) r

-- the events that a call makes, in order, where it finds this ring (01, The ring)
unfoldable pub notes_of : (call : ℕ) → Ring → List Made → List Note
notes_of k r [] = []
notes_of k r (m ∷ ms) = note_of k (fate_in r m) m ∷ notes_of k (ring_with r m) ms

-- the ported engine with the number of its next call and the events made since the load
pub record Ported : Type 0 where
  pub device : Device
  pub call : ℕ
  pub history : List Note

-- as a load starts it
abbrev pub ported_load : Device → Ported
ported_load d = record { device = d; call = 0; history = [] }

abbrev pub ported_follows : Ported → Item → Ported
ported_follows p (call c) =
    record {
      device = (step p.device c).after;
      call = p.call + 1;
      history = p.history ++ notes_of p.call p.device.ring (step p.device c).made;
    }
ported_follows p (load d) = record { device = d; call = 0; history = [] }
ported_follows p refused = record { device = p.device; call = p.call + 1; history = p.history }

unfoldable pub ported_after : Ported → List Item → Ported
ported_after p [] = p
ported_after p (x ∷ xs) = ported_after (ported_follows p x) xs

-- without its call's number, and without whether it was kept, an event is one of the rules'
abbrev pub is_offered : Fate → Bool
is_offered returned = false
is_offered kept = true
is_offered dropped = true

abbrev pub as_made : Note → Made
as_made n = record { input = n.input; vector = n.vector; asserted = n.asserted; offered = is_offered n.fate }

-- ---- list and history

-- an event of the history as it stands in the list; one that was returned does not
abbrev pub listed_as : (kept : Bool) → Note → Offered
listed_as b n = record { source = input n.input; event = record { vector = n.vector; asserted = n.asserted }; kept = b }

abbrev pub in_list : Fate → Note → List Offered
in_list returned n = []
in_list kept n = listed_as true n ∷ []
in_list dropped n = listed_as false n ∷ []

abbrev pub listed : List Note → List Offered
listed [] = []
listed (n ∷ ns) = in_list n.fate n ++ listed ns

-- the events that the last load of a sequence brought
unfoldable pub brought_by : List Event → List Item → List Event
brought_by es [] = es
brought_by es (call c ∷ xs) = brought_by es xs
brought_by es (load d ∷ xs) = brought_by d.ring.waiting xs
brought_by es (refused ∷ xs) = brought_by es xs
