-- One day of the plain engine, computed: the table of docs/PLAIN.md. Calls from reset, one of them refused; then a load in which fifteen events wait.
use Rattle.basics.proofs.Prelude.{◌≡◌, refl, ap, subst, ◌∙◌, Bool, true, false, List, [], ◌∷◌, ◌++◌, map, ℕ, zero, suc, take, replicate}
use Rattle.rules.specs.{Ring.Event, Access.byte, Access.dword}
use Rattle.rules.specs.Device.{Device, WellFormed, Call, level, poll, read, write, drain, Value, none, some, reset}
use Rattle.rules.specs.{Numbering.from_zero, History.from_reset}
use Rattle.images.{specs.Form.one, specs.Form.two, specs.Image.encode_as, proofs.laws.Saved.from_zero_well}
use Rattle.calls.{specs.Calls.answered, proofs.laws.Computing.computing}
use Rattle.histories.specs.exported.Exported.{Exported, left_by, is_done, is_load, carried_on, after_reset}
use Rattle.histories.proofs.{laws.WellFormed.history_well, exported.laws.Chains.faithful_after_reset}
use Rattle.laws.proofs.demands.RoundTrip.{saved_is_bytes, reset_can_be_saved}
use Rattle.plain.specs.{Events.input, Events.as_loaded, Events.Fate, Events.returned, Events.kept, Events.dropped, Events.Note, Events.waiting, Events.drop_count, Machine.Machine, Plain.Engine}
use Rattle.plain.specs.Beside.{AllAgree, after_calls, items_of}
use Rattle.plain.specs.Sequence.{load_of, Item, call, load, refused, takes, ported_sees, plain_sees, WellLoaded, plain_after, notes_of, ported_load, ported_after}
use Rattle.plain.proofs.{laws.Plainly.plainly, demands.SameEngine.plain_is_ported, demands.SameCalls.calls_as_plain_from_reset, demands.Fates.events_with_fates}
use Rattle.rules.specs.Ring as ring
use Rattle.calls.specs.Calls as request

-- ---- the day

-- a device as an image may hold it: inputs 3 and 9 are unmasked, latched and in service, and fifteen events wait
abbrev up : ℕ → Event
up v = record { vector = v; asserted = true }

abbrev down : ℕ → Event
down v = record { vector = v; asserted = false }

abbrev fifteen : List Event
fifteen =
    up 9 ∷ down 9 ∷ up 9 ∷ down 9 ∷ up 9 ∷ down 9 ∷ up 9 ∷ down 9 ∷ up 9 ∷ down 9 ∷ up 9 ∷ down 9 ∷ up 9 ∷ down 9 ∷ up 3 ∷ []

abbrev saved : Device
saved =
    record {
      core = record { lines = record { mask = 0xfffffffffffffdf7; irr = 0x208; isr = 0x208 }; vectors = reset.core.vectors; stored = reset.core.stored };
      ring = record { waiting = fifteen; drops = 0 };
    }

-- it is what these calls leave: 3 and 9 are raised, 9 is unmasked and masked seven times, both are unmasked, and 9 is polled
abbrev flips : ℕ → List Call
flips zero = []
flips (suc k) = write dword 0x020 0xfffffdff ∷ write dword 0x020 0xffffffff ∷ flips k

abbrev saved_calls : List Call
saved_calls = level 3 true ∷ level 9 true ∷ (flips 7 ++ (write dword 0x020 0xfffffdf7 ∷ poll 9 ∷ []))

saved_left : (from_reset saved_calls).after ≡ saved
unfolding computing
saved_left = refl

saved_well : WellFormed saved
saved_well = subst WellFormed saved_left (history_well reset saved_calls reset_can_be_saved.0)

abbrev day : List Item
day =
    call (level 3 true) ∷
    call (level 9 true) ∷
    call (poll 3) ∷
    call (write dword 0x020 0xfffffdd7) ∷
    call (read dword 0x3a0) ∷
    call (poll 9) ∷
    call (level 5 true) ∷
    call (read dword 0x380) ∷
    call (drain 1) ∷
    call (level 3 false) ∷
    refused ∷
    call (write byte 0x203 0x43) ∷
    call (level 3 true) ∷
    call (write dword 0x020 0xffffffff) ∷
    call (drain 2) ∷
    call (write dword 0x080 0x20) ∷
    call (write dword 0x020 0xfffffdd7) ∷
    load saved ∷
    call (write dword 0x020 0xffffffff) ∷
    call (drain 15) ∷
    call (read dword 0x3a0) ∷
    []

-- ---- what the table shows of each

-- an input's three marks
abbrev m : Bool → Bool → Bool → Machine
m l k s = record { latched = l; masked = k; in_service = s }

record Row : Type 0 where
  number : ℕ
  value : Value
  three : Machine
  five : Machine
  nine : Machine
  waits : List Event
  drops : ℕ

row_of : ℕ → Value → Engine → Row
row_of k v e = record {
  number = k;
  value = v;
  three = e.machines 3;
  five = e.machines 5;
  nine = e.machines 9;
  waits = waiting e.queue;
  drops = drop_count e.queue;
}

rows : Engine → List Item → List Row
rows e [] = []
rows e (x ∷ xs) = let g = takes e x in row_of e.call g.value g.after ∷ rows g.after xs

row : ℕ → Value → Machine → Machine → Machine → List Event → ℕ → Row
row k v a b c es d = record { number = k; value = v; three = a; five = b; nine = c; waits = es; drops = d }

note : ℕ → ℕ → ℕ → Bool → Fate → Note
note n k v a f = record { input = n; call = k; vector = v; asserted = a; fate = f }

-- ---- the table of docs/PLAIN.md

worked_day : (old : Engine) → rows (load_of old reset) day
    ≡
    row 0 none (m true true false) (m false true false) (m false true false) [] 0 ∷
    row 1 none (m true true false) (m false true false) (m true true false) [] 0 ∷
    row 2 none (m true true false) (m false true false) (m true true false) [] 0 ∷
    row 3 (some 0) (m true false true) (m false false false) (m true false false) (up 3 ∷ []) 0 ∷
    row 4 (some 8) (m true false true) (m false false false) (m true false false) (up 3 ∷ []) 0 ∷
    row 5 (some 9) (m true false true) (m false false false) (m true false true) (up 3 ∷ []) 0 ∷
    row 6 (some 5) (m true false true) (m true false true) (m true false true) (up 3 ∷ []) 0 ∷
    row 7 (some 0x228) (m true false true) (m true false true) (m true false true) (up 3 ∷ []) 0 ∷
    row 8 (some 1) (m true false true) (m true false true) (m true false true) [] 0 ∷
    row 9 (some 3) (m false false false) (m true false true) (m true false true) [] 0 ∷
    row 10 none (m false false false) (m true false true) (m true false true) [] 0 ∷
    row 11 (some 0) (m false false false) (m true false true) (m true false true) [] 0 ∷
    row 12 (some 0x43) (m true false true) (m true false true) (m true false true) [] 0 ∷
    row 13 (some 0) (m true true false) (m true true false) (m true true false) (down 0x43 ∷ down 5 ∷ down 9 ∷ []) 0 ∷
    row 14 (some 2) (m true true false) (m true true false) (m true true false) (down 9 ∷ []) 0 ∷
    row 15 (some 0) (m true true false) (m false true false) (m true true false) (down 9 ∷ []) 0 ∷
    row 16 (some 0) (m true false true) (m false false false) (m true false false) (down 9 ∷ up 0x43 ∷ []) 0 ∷
    row 17 none (m true false true) (m false true false) (m true false true) fifteen 0 ∷
    row 0 (some 1) (m true true false) (m false true false) (m true true false) (fifteen ++ (down 3 ∷ [])) 1 ∷
    row 1 (some 15) (m true true false) (m false true false) (m true true false) (down 3 ∷ []) 1 ∷
    row 2 (some 0) (m true true false) (m false true false) (m true true false) (down 3 ∷ []) 1 ∷
    []
unfolding computing plainly rows row_of row
worked_day old = refl

-- ---- the history before the load, and the one that it begins

abbrev morning : List Item
morning = take 17 day

worked_history : (old : Engine) → (plain_after (load_of old reset) morning).history
    ≡
    note 3 3 3 true kept ∷
    note 9 5 9 true returned ∷
    note 5 6 5 true returned ∷
    note 3 9 3 false returned ∷
    note 3 12 0x43 true returned ∷
    note 3 13 0x43 false kept ∷
    note 5 13 5 false kept ∷
    note 9 13 9 false kept ∷
    note 3 16 0x43 true kept ∷
    []
unfolding computing plainly note
worked_history old = refl

worked_history_since : (old : Engine) → (plain_after (load_of old reset) day).history
    ≡
    note 3 0 3 false kept ∷
    note 9 0 9 false dropped ∷
    []
unfolding computing plainly note
worked_history_since old = refl

-- the events that the load brought stand in the list before them, and are not in the history
worked_list : (old : Engine) → (plain_after (load_of old reset) day).queue.offered
    ≡ map as_loaded fifteen
    ++ (record { source = input 3; event = down 3; kept = true } ∷ record { source = input 9; event = down 9; kept = false } ∷ [])
unfolding computing plainly
worked_list old = refl

-- ---- and the ported engine gives the same

worked_as_ported : (old : Engine) → plain_sees (load_of old reset) day ≡ ported_sees reset day
unfolding WellLoaded
worked_as_ported old = plain_is_ported old reset reset_can_be_saved.0 day (saved_well, tt)

-- ---- exported calls

-- from reset in form 1 a raise of 3; then the load of an image of form 2, by the call that masks all 32
abbrev raising : Exported
raising = record { given = encode_as one reset (from_zero 0); asked = request.level 3 1; answer = replicate 16 0 }

abbrev loading : Exported
loading = record { given = encode_as two saved (from_zero 15); asked = request.write 0 0x400 0x020 4 0xffffffff; answer = replicate 16 0 }

exported_agree : (old : Engine) → AllAgree (load_of old reset) (after_reset one) (raising ∷ loading ∷ [])
exported_agree old =
    let fresh = saved_is_bytes reset reset_can_be_saved.0 (from_zero 0) reset_can_be_saved.1 one in
    let waits = saved_is_bytes saved saved_well (from_zero 15) (from_zero_well saved saved_well.waiting) two in
    calls_as_plain_from_reset old one (raising ∷ loading ∷ []) (fresh, (waits, tt))

-- both are done, the second is a load, and it tells the one event that it dropped
both_done : map is_done (raising ∷ loading ∷ []) ≡ true ∷ true ∷ []
unfolding computing
both_done = refl

loading_loads : is_load (carried_on (after_reset one) raising).left loading ≡ true
unfolding computing carried_on
loading_loads = refl

loading_tells : (left_by loading).answer ≡ answered 0 (some 1) (replicate 16 0)
unfolding computing ring.dropped
loading_tells = refl

-- the events of both with call and fate: since the load the deassert of 3 is kept, and that of 9 finds sixteen waiting; both were made by call 0
as_they_happen : items_of (after_reset one) (raising ∷ loading ∷ []) ≡ call (level 3 true) ∷ load saved ∷ call (write dword 0x020 0xffffffff) ∷ []
unfolding computing carried_on items_of
as_they_happen = refl

ported_fates : (ported_after (ported_load reset) (call (level 3 true) ∷ load saved ∷ call (write dword 0x020 0xffffffff) ∷ [])).history ≡ note 3 0 3 false kept ∷ note 9 0 9 false dropped ∷ []
unfolding computing plainly note ported_after notes_of
ported_fates = refl

exported_fates : (old : Engine) → (after_calls (load_of old reset) (after_reset one) (raising ∷ loading ∷ [])).history ≡ note 3 0 3 false kept ∷ note 9 0 9 false dropped ∷ []
exported_fates old =
    let fresh = saved_is_bytes reset reset_can_be_saved.0 (from_zero 0) reset_can_be_saved.1 one in
    let waits = saved_is_bytes saved saved_well (from_zero 15) (from_zero_well saved saved_well.waiting) two in
    events_with_fates old reset (encode_as one reset (from_zero 0)) (faithful_after_reset one) (raising ∷ loading ∷ []) (fresh, (waits, tt))
    ∙ ap (λ xs. (ported_after (ported_load reset) xs).history) as_they_happen ∙ ported_fates
