-- The premises of a sweep of those who wait can be met, and each is needed: who waits is told of a closed image, and exported calls poll these two alone.
use Rattle.basics.proofs.Prelude.{◌≡◌, refl, sym, ap, subst, ◌∙◌, Bool, true, not, ◌||◌, true≢false, List, [], ◌∷◌, ◌++◌, map, ℕ, ◌+◌, ◌^◌, lit<, replicate, Bytes, on}
use Rattle.rules.specs.{Ring.Event, Access.byte, Access.dword, Device.Call, Device.level, Device.poll, Device.write, Device.drain, Device.up_from, History.history}
use Rattle.images.specs.{Form.one, Image.decode}
use Rattle.calls.{specs.Calls.Request, specs.Calls.value_in, specs.Calls.Outcome, specs.Waiting.waiting_told, specs.Waiting.waiting, proofs.laws.Computing.computing}
use Rattle.histories.specs.Demands.{returned_in}
use Rattle.histories.specs.exported.Exported.{Exported, HandedOn, left_after, done_calls, Underway, at_load, returned_by}
use Rattle.histories.proofs.exported.{laws.Chains.faithful_at_load, demands.FromCalls.handed_on_is_no_load, demands.HandedBack.returned_is_read}
use Rattle.sweep.specs.{Sweeps.sweeping, Sweeps.is_poll, Sweeps.every_call, Sweeps.some_call, Sweeps.WakesAll, Handed.WakesAllRead, Handed.polls_all, Waited.SweepOf, Waited.polling_only, Waited.ComeToTheSame, Waited.told_waiting, Waited.polls_waiting}
use Rattle.sweep.proofs.demands.OfWaiting.{waiting_sweep_of_an_image, events_of_a_whole_sweep, polls_of_those_who_wait}
use Rattle.examples.proofs.PremisesMet.{all_below, all_below_lem}
use Rattle.examples.proofs.ExportedMet.{handed_on, handed_on_lem, image_of, left_bytes, left_accepted}
use Rattle.calls.specs.Calls as request

-- raise 3, 5, 7, 8, 60 and 63, and unmask all but 7 and 8: of 3 and 5 only 3 is announced, of 60 and 63 only 60. So 5 and 63 wait
abbrev begun : List Call
begun =
    level 3 true ∷ level 5 true ∷ level 7 true ∷ level 8 true ∷ level 60 true ∷ level 63 true ∷ write dword 0x020 0x180 ∷ write dword 0x024 0 ∷ []

abbrev image : List ℕ
image = image_of one begun

abbrev area : List ℕ
area = replicate 17 0xee

five_and_63_wait : waiting image area ≡ record { number = 0; image = image; answer = 0 ∷ 1 ∷ replicate 6 0 ++ (0x20 ∷ replicate 6 0 ++ (0x80 ∷ 0xee ∷ [])); events = [] }
unfolding computing waiting waiting_told
five_and_63_wait = refl

its_number : (waiting image area).number ≡ 0
its_number = ap (λ (o : Outcome). o.number) five_and_63_wait

image_bytes : Bytes image
image_bytes = left_bytes one begun

-- ---- exported calls that poll these two

-- poll 63, a poll of input 64, which is refused, raise 9, give 5 the vector 0x55, poll 5, drain
abbrev asked : List Request
asked =
    request.poll 63 ∷ request.poll 64 ∷ request.level 9 1 ∷ request.write 0 0x400 0x205 1 0x55 ∷ request.poll 5 ∷ request.drain (replicate 13 0xee) 1 ∷ []

abbrev exported : List Exported
exported = handed_on image asked

exported_handed_on : HandedOn image exported
exported_handed_on = handed_on_lem image asked refl

abbrev done : List Call
done = poll 63 ∷ level 9 true ∷ write byte 0x205 0x55 ∷ poll 5 ∷ drain 3 ∷ []

exported_calls : done_calls exported ≡ done
unfolding computing done_calls
exported_calls = refl

-- a test that decides whether calls are a sweep of a set
abbrev polls_those : ℕ → ℕ → List Call → Bool
polls_those k w cs = all_below k (λ n. not (on w n) || some_call (is_poll n) cs)

is_sweep_of : (w : ℕ) (cs : List Call) → every_call sweeping cs ≡ true → polls_those 64 w cs ≡ true → SweepOf w cs
is_sweep_of w cs a p = record { admitted = a; polled = λ n b e. rw e at (all_below_lem 64 (λ n. not (on w n) || some_call (is_poll n) cs) p n b) }

told : told_waiting image area ≡ 2 ^ 63 + 0x20
unfolding computing
told = ap (λ (o : Outcome). value_in o.answer) five_and_63_wait

done_is_a_sweep : SweepOf (told_waiting image area) (done_calls exported)
unfolding computing
done_is_a_sweep = subst (λ cs. SweepOf (told_waiting image area) cs) (sym exported_calls) (subst (λ w. SweepOf w done) (sym told) (is_sweep_of (2 ^ 63 + 0x20) done refl refl))

exported_wakes_all : WakesAllRead (decode image) exported (decode (left_after image exported))
exported_wakes_all = waiting_sweep_of_an_image image area image_bytes its_number exported exported_handed_on done_is_a_sweep

-- what the host reads: 63, 9 and 5, which has its new vector
abbrev asserts : ℕ → Event
asserts v = record { vector = v; asserted = true }

abbrev loaded : Underway
loaded = at_load image

exported_returned : returned_by exported ≡ asserts 63 ∷ asserts 9 ∷ asserts 0x55 ∷ []
unfolding computing returned_in
exported_returned =
    returned_is_read loaded (faithful_at_load image image_bytes (left_accepted one begun)) exported (handed_on_is_no_load loaded exported exported_handed_on)
    ∙ ap (λ cs. returned_in (history (decode image) cs).made) exported_calls

-- ---- the same with polls of all 64

abbrev all_asked : List Request
all_asked =
    map request.poll (up_from 32 32)
    ++ (request.level 9 1 ∷ request.write 0 0x400 0x205 1 0x55 ∷ (map request.poll (up_from 0 32) ++ (request.drain (replicate 13 0xee) 1 ∷ [])))

abbrev whole : List Exported
whole = handed_on image all_asked

whole_handed_on : HandedOn image whole
unfolding up_from
whole_handed_on = handed_on_lem image all_asked refl

abbrev whole_done : List Call
whole_done = map poll (up_from 32 32) ++ (level 9 true ∷ write byte 0x205 0x55 ∷ (map poll (up_from 0 32) ++ (drain 3 ∷ [])))

whole_calls : done_calls whole ≡ whole_done
unfolding computing done_calls
whole_calls = refl

same_but_for_polls : done ≡ polling_only (2 ^ 63 + 0x20) whole_done
unfolding computing polling_only
same_but_for_polls = refl

alike : ComeToTheSame image exported whole
unfolding computing
alike =
    events_of_a_whole_sweep image area image_bytes its_number whole exported whole_handed_on exported_handed_on (subst (λ cs. every_call sweeping cs ≡ true) (sym whole_calls) refl)
    (exported_calls ∙ same_but_for_polls ∙ (λ j. polling_only (sym told j) (sym whole_calls j)))

-- the polls that a host makes, of 5 and of 63
hosts_polls : WakesAllRead (decode image) (polls_waiting image area) (decode (left_after image (polls_waiting image area))) × ComeToTheSame image (polls_waiting image area) (polls_all image area)
hosts_polls = polls_of_those_who_wait image area image_bytes its_number

-- ---- each of those who wait is to be polled

-- 63 is, and 5 is not: it stays latched, unmasked and out of service
abbrev but5 : List Call
but5 = poll 63 ∷ level 9 true ∷ []

but5_is_admitted : (every_call sweeping but5 ≡ true) × (some_call (is_poll 63) but5 ≡ true)
unfolding computing
but5_is_admitted = (refl, refl)

each_poll_needed : WakesAll (decode image) (history (decode image) but5).made (history (decode image) but5).after → ⊥
unfolding computing
each_poll_needed w = true≢false (sym (w.served 5 (lit< tt) (record { latched = refl; unmasked = refl })))
