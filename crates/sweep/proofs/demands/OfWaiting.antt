-- 02, C-24, with 'polls each input that waited at the start' in place of 'polls each input': of the device, and of exported calls, where the set is what the call
-- `waiting` tells of the image at the start. And the polls of all others make nothing and change nothing, so that the events are those of a sweep of all 64.
use Rattle.basics.proofs.Prelude.{◌≡◌, refl, sym, ap, subst, ◌∙◌, true, false, not, and-eq-true_iff, or-true, List, [], ◌∷◌, ℕ, ◌<◌, lit<, lit≤, length, le-leb, lt-ltb, eqb-true, Bytes, on, inputs, test, no_inputs, on_none, ◌≤◌}
use Rattle.rules.specs.Lines.{is_pending}
use Rattle.rules.specs.Device.{Device, Call, Step, none, poll, step}
use Rattle.rules.specs.{Numbering.Numbers, Numbering.numbers_after, Numbering.takes_all, Numbering.value_with, History.history}
use Rattle.images.specs.Image.{decode, numbers_in, image_test, accepted, encode_as, encode_like}
use Rattle.calls.specs.Calls.{performed, answer_length, answered, leaves, outcome, AnswerRoom}
use Rattle.calls.{specs.Waiting.waiting_in, specs.Waiting.waiting, proofs.laws.Outcomes.no_events, proofs.demands.WhoWaits.waiting_done, proofs.demands.WhoWaits.set_in_the_answer}
use Rattle.histories.specs.{Demands.Eligible, Demands.in_service, Demands.returned_in}
use Rattle.histories.specs.exported.Exported.{Exported, HandedOn, done_calls, left_after, Underway, current, Faithful, numbers_through, at_load}
use Rattle.histories.proofs.exported.laws.{Chains.faithful_at_load, Readings.read_as}
use Rattle.histories.proofs.exported.demands.FromCalls.{image_holds_device, image_holds_history, handed_on_is_no_load, left_through, calls_carry_on}
use Rattle.sweep.specs.{Sweeps.sweeping, Sweeps.is_poll, Sweeps.every_call, Sweeps.some_call, Sweeps.Sweep, Sweeps.WakesAll, Handed.WakesAllRead, Handed.polls_all}
use Rattle.sweep.specs.Waited.{SweepOf, polls_outside, polling_only, ComeToTheSame, told_waiting, polls_of, polls_waiting}
use Rattle.laws.proofs.laws.Images.{encode_decode}
use Rattle.sweep.proofs.laws.{OneInput.Awake, OneInput.calls_swept, OneInput.calls_awake, Announcing.calls_announce, Announcing.calls_drain, Announcing.calls_lose_none, Reading.returned_silent, Reading.asserts_read_lem}
use Rattle.sweep.proofs.laws.{Idle.idle_awake, Idle.idle_poll, Idle.at_the_start, Idle.saved_history, Idle.saved_numbers, Polls.poll_calls, Polls.all_polled, Polls.polls_done, Polls.listed_polled, Polls.listed_done, Polls.length_answered}
use Rattle.sweep.proofs.demands.WakesAll.{awake_is_asserted, poll_asks}
use Rattle.rules.specs.Device as call
use Rattle.calls.specs.Calls as request

-- ---- of the device

-- A poll of an input that does not wait makes nothing and changes nothing.
pub a_poll_of_one_that_does_not_wait : (d : Device) (n : ℕ) → is_pending d.core.lines n ≡ false → step d (poll n) ≡ record { after = d; made = []; drained = [] }
a_poll_of_one_that_does_not_wait d n e = idle_poll d n (λ b. e)

-- Along a sweep of those who wait an input is in service at the end if it is latched and unmasked: one that waited is polled, any other never waits.
awake_at_the_end : (d : Device) (cs : List Call) → SweepOf (waiting_in d.core.lines) cs → (n : ℕ) (b : n < 64) → Awake n b (history d cs).after.core.lines
awake_at_the_end d cs s n b =
    test (on (waiting_in d.core.lines) n) (λ t. calls_awake n b d cs s.admitted (poll_asks n cs (s.polled n b t)))
    (λ t. (calls_swept n b d cs s.admitted).awake (idle_awake n b d.core.lines (at_the_start d n b t)))

-- 'At its end every latched and unmasked input is in service. During it no deassert is made, and each input is asserted at most once, exactly if it was not in
-- service at the start and is latched and unmasked at the end' (02, C-24): so it is too where only those are polled that waited at the start.
pub one_sweep_of_those_who_wait : (d : Device) (cs : List Call) → SweepOf (waiting_in d.core.lines) cs → WakesAll d (history d cs).made (history d cs).after
one_sweep_of_those_who_wait d cs s =
    record {
      served = λ n b. awake_at_the_end d cs s n b;
      no_deassert = (calls_swept 0 (lit< tt) d cs s.admitted).silent;
      asserted = λ n b. awake_is_asserted n b d cs s.admitted (awake_at_the_end d cs s n b);
    }

-- Of any calls that a sweep admits, so of a sweep of all 64, those polls can be left out that are of inputs that did not wait at the start: the device left, every
-- event made and every event drained are the same, in order.
pub the_other_polls_do_nothing : (d : Device) (cs : List Call) → every_call sweeping cs ≡ true → history d (polling_only (waiting_in d.core.lines) cs) ≡ history d cs
the_other_polls_do_nothing d cs e = saved_history (waiting_in d.core.lines) d cs (at_the_start d) e

-- What is left so of a sweep of all 64 is a sweep of the set.
pub what_is_left_of_a_sweep : (w : ℕ) (cs : List Call) → Sweep cs → SweepOf w (polling_only w cs)
unfolding polling_only
what_is_left_of_a_sweep w cs s = record { admitted = every_left cs s.admitted; polled = λ n b e. some_left n e cs (s.polled n b) }
  where
    every_left : (cs : List Call) → every_call sweeping cs ≡ true → every_call sweeping (polling_only w cs) ≡ true
    every_left [] e = e
    every_left (c ∷ cs) e =
        let both = (and-eq-true_iff (sweeping c) (every_call sweeping cs)).0 e in
        test (polls_outside w c) (λ t. rw t (every_left cs both.1)) (λ t. rw (t, both.0) (every_left cs both.1))

    -- a poll of one in the set is not left out
    stays : (n : ℕ) → on w n ≡ true → (c : Call) → is_poll n c ≡ true → polls_outside w c ≡ false
    stays n e (call.level m x) t = refl
    stays n e (call.poll m) t = ap not (ap (on w) (eqb-true m n t) ∙ e)
    stays n e (call.read x p) t = refl
    stays n e (call.write x p v) t = refl
    stays n e (call.drain k) t = refl

    some_left : (n : ℕ) → on w n ≡ true → (cs : List Call) → some_call (is_poll n) cs ≡ true → some_call (is_poll n) (polling_only w cs) ≡ true
    some_left n e [] h = h
    some_left n e (c ∷ cs) h =
        test (is_poll n c) (λ t. rw (stays n e c t, t))
        (λ t. let rest = some_left n e cs (rw t at h) in test (polls_outside w c) (λ u. rw u rest) (λ u. rw (u, rest) (or-true (is_poll n c))))

-- ---- of exported calls

-- An exported poll of an input that does not wait is done, has no value, and leaves the image as it was given.
pub an_exported_poll_of_none : (i a : List ℕ) → Bytes i → image_test i ≡ accepted → 16 ≤ length a → (n : ℕ) → n < 64 → is_pending (decode i).core.lines n ≡ false
    → outcome (request.poll n) i a ≡ leaves 0 i (answered 0 none a) []
unfolding outcome performed numbers_after takes_all value_with
an_exported_poll_of_none i a b t r n l e =
    let d = decode i in
    let s = numbers_in i in
    let is = idle_poll d n (λ h. e) in
    rw (le-leb answer_length (length a) r, t, lt-ltb n 64 l, is) (λ j. leaves 0 (encode_decode i b t j) (answered 0 none a) (sym (no_events d s (poll n) refl) j))

module _ (i a : List ℕ) (b : Bytes i) (z : (waiting i a).number ≡ 0) where
  is_accepted : image_test i ≡ accepted
  is_accepted = (waiting_done i a z).0

  faith : Faithful (at_load i)
  faith = faithful_at_load i b is_accepted

  -- From any image i of which `waiting` is done, with whatever answer area: exported calls of which the first is given i and each other the image that the one
  -- before it left, none a reset, and of which the done ones poll each input of the set that it told. Then all that C-24 says of a sweep holds of them.
  pub waiting_sweep_of_an_image : (xs : List Exported) → HandedOn i xs → SweepOf (told_waiting i a) (done_calls xs) → WakesAllRead (decode i) xs (decode (left_after i xs))
  unfolding history
  waiting_sweep_of_an_image xs o s =
      let h = at_load i in
      let n = handed_on_is_no_load h xs o in
      let cs = done_calls xs in
      let w = one_sweep_of_those_who_wait (decode i) cs (subst (λ x. SweepOf x cs) (set_in_the_answer i a z) s) in
      let r = read_as h faith xs n in
      let ring = calls_drain (decode i) cs (calls_announce (decode i) cs s.admitted) in
      rw (← left_through h xs o, image_holds_history h faith xs n)
      (record {
        served = w.served;
        no_deassert = rw r.returned (returned_silent (history (decode i) cs).made w.no_deassert);
        none_offered = rw r.drained ring.0;
        none_dropped = ring.1;
        none_lost = calls_lose_none (decode i) cs (calls_announce (decode i) cs s.admitted) (decode i).ring;
        asserted = λ m l. asserts_read_lem h faith xs n s.admitted m ∙ w.asserted m l;
      })

  -- Two such lists of exported calls, whose done calls are such as a sweep admits, and are the same but that in ys polls of inputs are left out that are not in
  -- the set: they leave the same image, and return and drain the same events in order.
  pub events_of_a_whole_sweep : (xs ys : List Exported) → HandedOn i xs → HandedOn i ys → every_call sweeping (done_calls xs) ≡ true
      → done_calls ys ≡ polling_only (told_waiting i a) (done_calls xs) → ComeToTheSame i ys xs
  unfolding history
  events_of_a_whole_sweep xs ys o p e c =
      let h = at_load i in
      let m = handed_on_is_no_load h xs o in
      let n = handed_on_is_no_load h ys p in
      let d = decode i in
      let fewer : done_calls ys ≡ polling_only (waiting_in d.core.lines) (done_calls xs) = c ∙ ap (λ w. polling_only w (done_calls xs)) (set_in_the_answer i a z) in
      let same : history d (done_calls ys) ≡ history d (done_calls xs) = ap (history d) fewer ∙ the_other_polls_do_nothing d (done_calls xs) e in
      let numbers-are : numbers_through d faith.numbers (done_calls ys) ≡ numbers_through d faith.numbers (done_calls xs) = ap (numbers_through d faith.numbers) fewer ∙ saved_numbers (waiting_in d.core.lines) d faith.numbers (done_calls xs) (at_the_start d) e in
      let lx = sym (left_through h xs o) ∙ ap (λ (u : Underway). u.left) (calls_carry_on h faith xs m) in
      let ly = sym (left_through h ys p) ∙ ap (λ (u : Underway). u.left) (calls_carry_on h faith ys n) in
      let rx = read_as h faith xs m in
      let ry = read_as h faith ys n in
      record {
        left = ly ∙ (λ j. encode_as faith.form (same j).after (numbers-are j)) ∙ sym lx;
        returned = ry.returned ∙ ap (λ (s : Step). returned_in s.made) same ∙ sym rx.returned;
        drained = ry.drained ∙ ap (λ (s : Step). s.drained) same ∙ sym rx.drained;
      }

  -- ---- what hosts do

  -- the call leaves its answer area with room
  roomy : AnswerRoom (waiting i a).answer
  unfolding waiting
  roomy = let r = (waiting_done i a z).1 in rw (le-leb answer_length (length a) r) (length_answered _ _ a)

  hosts_calls : HandedOn i (polls_waiting i a) × (done_calls (polls_waiting i a) ≡ polling_only (told_waiting i a) (poll_calls 0 64))
  hosts_calls =
      let r = listed_done (on (told_waiting i a)) i (waiting i a).answer b is_accepted roomy in
      (r.0, r.1 ∙ sym (listed_polled (told_waiting i a) 0 64))

  -- The polls that hosts make, once they have asked who waits: of each input in the set, lowest first, each given the image that the one before it left, all with
  -- one answer area. All are done; what C-24 says of a sweep holds of them; and they come to the same as polls of all 64.
  pub polls_of_those_who_wait : WakesAllRead (decode i) (polls_waiting i a) (decode (left_after i (polls_waiting i a))) × ComeToTheSame i (polls_waiting i a) (polls_all i a)
  polls_of_those_who_wait =
      let all = polls_done 0 64 (lit≤ tt) i a b is_accepted (waiting_done i a z).1 in
      let listed = hosts_calls in
      let swept = subst (SweepOf (told_waiting i a)) (sym listed.1) (what_is_left_of_a_sweep (told_waiting i a) (poll_calls 0 64) all_polled) in (
        waiting_sweep_of_an_image (polls_waiting i a) listed.0 swept,
        events_of_a_whole_sweep (polls_all i a) (polls_waiting i a) all.0 listed.0 (rw all.1 all_polled.admitted) (listed.1 ∙ ap (polling_only (told_waiting i a)) (sym all.1)),
      )

  -- Where nobody waits there is nothing to poll.
  pub nobody_waits : told_waiting i a ≡ 0 → polls_waiting i a ≡ []
  unfolding polls_of
  nobody_waits e = ap (λ ns. polls_of ns i (waiting i a).answer) (ap (λ w. inputs (on w)) e ∙ no_inputs (on 0) (λ n l. on_none n))
