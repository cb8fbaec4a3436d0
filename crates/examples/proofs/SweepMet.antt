-- The premises of a sweep can be met, and each of them is needed: a sweep that wakes three inputs, and beside it one that breaks a single premise for each of
-- MASK, CLEAR, ISR, a lowering, an input not polled, a load and a reset, with a consequence that fails. Of calls of the device, and of exported calls.
use Rattle.basics.proofs.Prelude.{◌≡◌, refl, sym, ap, subst, ◌∙◌, Bool, true, false, true≢false, List, [], ◌∷◌, ◌++◌, map, ℕ, arith, lit<, lit≤, replicate, Bytes}
use Rattle.rules.specs.{Lines.Made, Ring.Event, Access.byte, Access.dword, Device.Device, Device.Call, Device.level, Device.poll, Device.read, Device.write, Device.drain, Device.reset, Device.up_from}
use Rattle.rules.specs.{Numbering.from_zero, History.history, History.from_reset, Account.tally}
use Rattle.images.specs.{Form.one, Form.two, Image.decode, Image.image_test, Image.accepted}
use Rattle.calls.{specs.Calls.Request, proofs.laws.Computing.computing}
use Rattle.histories.specs.Demands.{in_service, asserts_of, returned_in}
use Rattle.histories.specs.exported.Exported.{Exported, left_by, HandedOn, left_after, Underway, done_call, done_calls, at_load, returned_by, drained_by}
use Rattle.histories.proofs.exported.{laws.Chains.faithful_at_load, laws.Chains.calls_split, demands.FromCalls.handed_on_is_no_load}
use Rattle.histories.proofs.exported.demands.HandedBack.{returned_is_read, drained_is_read}
use Rattle.sweep.specs.{Sweeps.sweeping, Sweeps.is_poll, Sweeps.every_call, Sweeps.some_call, Sweeps.Sweep, Sweeps.WakesAll, Handed.WakesAllRead, Handed.polls_from, Handed.polls_all}
use Rattle.sweep.proofs.{laws.Polls.polls_done, demands.WakesAll.one_sweep_wakes_all, demands.OfCalls.sweep_of_an_image, demands.OfCalls.polls_are_a_sweep, demands.OfCalls.polls_wake_all}
use Rattle.laws.proofs.demands.RoundTrip.{saved_is_bytes, saved_is_accepted, reset_can_be_saved}
use Rattle.examples.proofs.PremisesMet.{all_below, all_below_lem, seventeen, mask_all}
use Rattle.examples.proofs.ExportedMet.{handed_on, handed_on_lem, image_of, left_bytes, left_accepted}
use Rattle.calls.specs.Calls as request

-- ---- a test that decides whether calls are a sweep

-- every one of the first k inputs is polled
abbrev polls_below : ℕ → List Call → Bool
polls_below k cs = all_below k (λ n. some_call (is_poll n) cs)

is_sweep : (cs : List Call) → every_call sweeping cs ≡ true → polls_below 64 cs ≡ true → Sweep cs
is_sweep cs a p = record { admitted = a; polled = all_below_lem 64 (λ n. some_call (is_poll n) cs) p }

-- ---- calls of the device

-- raise 3, 5, 7, 8, 60 and 63, and unmask all but 7 and 8: of 3 and 5 only 3 is announced, of 60 and 63 only 60
abbrev begun : List Call
begun =
    level 3 true ∷ level 5 true ∷ level 7 true ∷ level 8 true ∷ level 60 true ∷ level 63 true ∷ write dword 0x020 0x180 ∷ write dword 0x024 0 ∷ []

abbrev start : Device
start = (from_reset begun).after

-- its image in form 1
abbrev image : List ℕ
image = image_of one begun

abbrev polls : ℕ → ℕ → List Call
polls n k = map poll (up_from n k)

-- raise 9, give 5 the vector 0x55, read ISR, drain
abbrev between : List Call
between = level 9 true ∷ write byte 0x205 0x55 ∷ read dword 0x3a0 ∷ drain 1 ∷ []

-- poll 32 to 63, do that, and poll 0 to 31; in front a read, at the end another poll of 5, another raise of 3 and another vector for 5
abbrev swept : List Call
swept = read dword 0x020 ∷ (polls 32 32 ++ (between ++ (polls 0 32 ++ (poll 5 ∷ level 3 true ∷ write byte 0x205 0x66 ∷ []))))

swept_is_a_sweep : Sweep swept
unfolding computing
swept_is_a_sweep = is_sweep swept refl refl

-- what a sweep does, said of any calls from start on
abbrev Holds : List Call → Type 0
Holds cs = WakesAll start (history start cs).made (history start cs).after

wakes_all : Holds swept
wakes_all = one_sweep_wakes_all start swept swept_is_a_sweep

-- 63, 9 and 5 are woken, each once, and 5 with the vector that it had then; 3 and 60 were in service, 7 and 8 are masked
abbrev assert_of : ℕ → ℕ → Made
assert_of n v = record { input = n; vector = v; asserted = true; offered = false }

swept_made : (history start swept).made ≡ assert_of 63 63 ∷ assert_of 9 9 ∷ assert_of 5 0x55 ∷ []
unfolding computing
swept_made = refl

five_asserted : asserts_of 5 (history start swept).made ≡ 1
unfolding computing
five_asserted = wakes_all.asserted 5 (lit< tt)

three_not_asserted : asserts_of 3 (history start swept).made ≡ 0
unfolding computing
three_not_asserted = wakes_all.asserted 3 (lit< tt)

sixty_three_served : in_service 63 (history start swept).after.core.lines ≡ true
unfolding computing
sixty_three_served = wakes_all.served 63 (lit< tt) (record { latched = refl; unmasked = refl })

-- ---- each premise is needed

-- a sweep and one call more, of a kind that it does not admit
abbrev and_then : Call → List Call
and_then c = swept ++ (c ∷ [])

-- MASK: of 7 and 8, both latched, only 7 is announced; 8 is latched and unmasked, and not in service
mask_needed : Holds (and_then (write dword 0x020 0)) → ⊥
unfolding computing
mask_needed w = true≢false (sym (w.served 8 (lit< tt) (record { latched = refl; unmasked = refl })))

-- CLEAR: 3 leaves service, and its deassert is made
clear_needed : Holds (and_then (write dword 0x080 8)) → ⊥
unfolding computing tally
clear_needed w = let z : ◌≡◌ {A = ℕ} 1 0 = w.no_deassert in omega arith

-- ISR: 3 is taken out of service, and stays latched and unmasked
isr_needed : Holds (and_then (write dword 0x3a0 0)) → ⊥
unfolding computing
isr_needed w = true≢false (sym (w.served 3 (lit< tt) (record { latched = refl; unmasked = refl })))

-- a lowering: 3 leaves service, and its deassert is made
lowering_needed : Holds (and_then (level 3 false)) → ⊥
unfolding computing tally
lowering_needed w = let z : ◌≡◌ {A = ℕ} 1 0 = w.no_deassert in omega arith

-- an input not polled: 0 to 62 are, and 63 stays latched, unmasked and out of service
abbrev but63 : List Call
but63 = read dword 0x020 ∷ (polls 32 31 ++ (between ++ polls 0 32))

but63_polls_the_others : (every_call sweeping but63 ≡ true) × (polls_below 63 but63 ≡ true)
unfolding computing
but63_polls_the_others = (refl, refl)

each_poll_needed : Holds but63 → ⊥
unfolding computing
each_poll_needed w = true≢false (sym (w.served 63 (lit< tt) (record { latched = refl; unmasked = refl })))

-- ---- exported calls

-- the same with three refused calls among them: a poll of input 64, a write to MASK of width 3, and one that lies outside
abbrev asked : List Request
asked =
    map request.poll (up_from 32 32)
    ++ (request.poll 64 ∷ request.level 9 1 ∷ request.write 0 0x400 0x020 3 0 ∷ request.write 0 0x400 0x205 1 0x55 ∷ request.read 0 0x400 0x3a0 4 ∷
    request.write 0 0x20 0x020 4 0 ∷ request.drain (replicate 13 0xee) 1 ∷ map request.poll (up_from 0 32))

abbrev exported : List Exported
exported = handed_on image asked

start_bytes : Bytes image
start_bytes = left_bytes one begun

start_accepted : image_test image ≡ accepted
start_accepted = left_accepted one begun

exported_handed_on : HandedOn image exported
unfolding up_from
exported_handed_on = handed_on_lem image asked refl

-- the refused ones are no calls
abbrev done : List Call
done = polls 32 32 ++ (level 9 true ∷ write byte 0x205 0x55 ∷ read dword 0x3a0 ∷ drain 3 ∷ polls 0 32)

exported_calls : done_calls exported ≡ done
unfolding computing done_calls
exported_calls = refl

done_is_a_sweep : Sweep done
unfolding computing
done_is_a_sweep = is_sweep done refl refl

exported_wakes_all : WakesAllRead (decode image) exported (decode (left_after image exported))
exported_wakes_all =
    sweep_of_an_image image start_bytes start_accepted exported exported_handed_on (subst Sweep (sym exported_calls) done_is_a_sweep)

-- what the host reads: the three asserts in answer areas, and in the event buffer the two that waited
abbrev asserts : ℕ → Event
asserts v = record { vector = v; asserted = true }

abbrev loaded : Underway
loaded = at_load image

exported_returned : returned_by exported ≡ asserts 63 ∷ asserts 9 ∷ asserts 0x55 ∷ []
unfolding computing returned_in
exported_returned =
    returned_is_read loaded (faithful_at_load image start_bytes start_accepted) exported (handed_on_is_no_load loaded exported exported_handed_on)
    ∙ ap (λ cs. returned_in (history (decode image) cs).made) exported_calls

exported_drained : drained_by exported ≡ asserts 3 ∷ asserts 60 ∷ []
unfolding computing
exported_drained =
    drained_is_read loaded (faithful_at_load image start_bytes start_accepted) exported (handed_on_is_no_load loaded exported exported_handed_on)
    ∙ ap (λ cs. (history (decode image) cs).drained) exported_calls

-- the 64 polls of a host
hosts_polls : WakesAllRead (decode image) (polls_all image (replicate 16 0)) (decode (left_after image (polls_all image (replicate 16 0))))
hosts_polls = polls_wake_all image (replicate 16 0) start_bytes start_accepted (lit≤ tt)

-- ---- no load, and no reset

left_last : (i : List ℕ) (xs : List Exported) (x : Exported) → left_after i (xs ++ (x ∷ [])) ≡ (left_by x).image
unfolding left_after
left_last i [] x = refl
left_last i (y ∷ xs) x = left_last (left_by y).image xs x

-- a load: 0 to 62 are polled, and then 63 in another image, one of form 2, in which 0 is latched, unmasked and out of service; there it stays so
abbrev other : List Call
other = level 0 true ∷ write dword 0x020 0 ∷ write dword 0x3a0 0 ∷ []

abbrev loading : Exported
loading = record { given = image_of two other; asked = request.poll 63; answer = replicate 16 0 }

abbrev with_load : List Exported
with_load = polls_from 0 63 image (replicate 16 0) ++ (loading ∷ [])

loading_polls : done_call loading ≡ poll 63 ∷ []
unfolding computing
loading_polls = refl

with_load_polls_all : Sweep (done_calls with_load)
unfolding computing done_calls
with_load_polls_all =
    let calls_are = calls_split (polls_from 0 63 image (replicate 16 0)) loading [] (poll 63) loading_polls in
    let polled = (polls_done 0 63 (lit≤ tt) image (replicate 16 0) start_bytes start_accepted (lit≤ tt)).1 in
    subst Sweep (sym (calls_are ∙ ap (λ cs. cs ++ (poll 63 ∷ [])) polled)) (is_sweep (polls 0 63 ++ (poll 63 ∷ [])) refl refl)

no_load_needed : WakesAllRead (decode image) with_load (decode (left_after image with_load)) → ⊥
unfolding computing
no_load_needed w =
    let v = subst (λ i. WakesAllRead (decode image) with_load (decode i)) (left_last image (polls_from 0 63 image (replicate 16 0)) loading) w in
    true≢false (sym (v.served 0 (lit< tt) (record { latched = refl; unmasked = refl })))

-- a reset: in front of the 64 polls it is no call of the device, and takes back the drop that the first image counts
abbrev dropping : List Call
dropping = seventeen ++ (mask_all ∷ [])

abbrev resetting : Exported
resetting = record { given = image_of two dropping; asked = request.reset; answer = replicate 16 0 }

abbrev after_reset : List ℕ
after_reset = (left_by resetting).image

abbrev with_reset : List Exported
with_reset = resetting ∷ polls_all after_reset (replicate 16 0)

left_by_reset : (Bytes after_reset) × (image_test after_reset ≡ accepted)
unfolding computing
left_by_reset =
    (saved_is_bytes reset reset_can_be_saved.0 (from_zero 0) reset_can_be_saved.1 two, saved_is_accepted reset reset_can_be_saved.0 (from_zero 0) reset_can_be_saved.1 two)

with_reset_polls_all : Sweep (done_calls with_reset)
unfolding computing done_calls
with_reset_polls_all = polls_are_a_sweep after_reset (replicate 16 0) left_by_reset.0 left_by_reset.1 (lit≤ tt)

one_counted : (decode resetting.given).ring.drops ≡ 1
unfolding computing
one_counted = refl

none_counted : (decode after_reset).ring.drops ≡ 0
unfolding computing
none_counted = refl

left_behind : (i : List ℕ) (x : Exported) (xs : List Exported) → left_after i (x ∷ xs) ≡ left_after (left_by x).image xs
unfolding left_after
left_behind i x xs = refl

no_reset_needed : WakesAllRead (decode resetting.given) with_reset (decode (left_after resetting.given with_reset)) → ⊥
no_reset_needed w =
    let polled = polls_wake_all after_reset (replicate 16 0) left_by_reset.0 left_by_reset.1 (lit≤ tt) in
    let left = ap (λ i. (decode i).ring.drops) (left_behind resetting.given resetting (polls_all after_reset (replicate 16 0))) in
    let z : ◌≡◌ {A = ℕ} 1 0 = sym one_counted ∙ sym w.none_dropped ∙ left ∙ polled.none_dropped ∙ none_counted in
    omega arith
