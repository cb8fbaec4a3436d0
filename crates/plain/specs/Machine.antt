-- One input's machine: three marks, each yes or no, and the steps that it can take. No step here looks at another input.
use Rattle.std.specs.Prelude.{Bool, true, false, cond, not, ◌&&◌, ◌||◌}

-- latched: raised, and neither lowered nor cleared since; masked: shut out by the guest; in service: announced, and not yet taken back (02, C-13)
pub record Machine : Type 0 where
  pub latched : Bool
  pub masked : Bool
  pub in_service : Bool

-- what is heard of a step: nothing, an assert, a deassert
pub data Signal : Type 0 where
  quiet asserts deasserts : Signal

-- the machine after a step, and what is heard of it
pub record Stepped : Type 0 where
  pub after : Machine
  pub signal : Signal

-- no step
abbrev pub rests : Machine → Stepped
rests m = record { after = m; signal = quiet }

-- poll: one that is latched, unmasked and not in service goes into service and asserts; any other rests (01, Inputs: poll)
abbrev pub polls : Machine → Stepped
polls m =
    cond (m.latched && not m.masked && not m.in_service)
    (record { after = record { latched = m.latched; masked = m.masked; in_service = true }; signal = asserts })
    (rests m)

-- raise: it is latched, and then polled (01, Inputs: raise)
abbrev pub raises : Machine → Stepped
raises m = polls (record { latched = true; masked = m.masked; in_service = m.in_service })

-- lower, and clear: latch and service go off; one that was in service, masked or not, deasserts (01, Inputs: lower, CLEAR)
abbrev pub lowers : Machine → Stepped
lowers m = record { after = record { latched = false; masked = m.masked; in_service = false }; signal = cond m.in_service deasserts quiet }

-- mask: one that was unmasked leaves service, and deasserts if it was in it; its latch stays (01, Inputs: MASK)
abbrev pub masks : Machine → Stepped
masks m =
    cond m.masked (rests m)
    (record { after = record { latched = m.latched; masked = true; in_service = false }; signal = cond m.in_service deasserts quiet })

-- an unmask could wake it: it is masked, latched and not in service (01, Inputs: MASK)
abbrev pub could_wake : Machine → Bool
could_wake m = m.masked && m.latched && not m.in_service

-- unmask: one that could wake, and is the lowest that could, goes into service and asserts (01, Inputs: MASK)
abbrev pub unmasks : (lowest : Bool) → Machine → Stepped
unmasks lowest m =
    let wakes = could_wake m && lowest in
    record { after = record { latched = m.latched; masked = false; in_service = m.in_service || wakes }; signal = cond wakes asserts quiet }

-- a write to ISR: service becomes what is written, and nothing is heard (01, Window and register map)
abbrev pub serves : Bool → Machine → Stepped
serves b m = record { after = record { latched = m.latched; masked = m.masked; in_service = b }; signal = quiet }
