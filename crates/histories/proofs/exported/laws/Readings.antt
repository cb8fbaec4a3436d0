-- What a host reads of exported calls. A level or poll call returns at most one event, and its answer area holds it; a write returns none; a drain's event
-- buffer holds what was drained. So along exported calls a host reads what the history returns and drains, in order (read_as), whatever numbers stand with it.
use Rattle.basics.proofs.Prelude.{◌≡◌, refl, sym, ap, ap₂, ◌∙◌, Bool, true, false, cond, not, true≢false, and-false, List, [], ◌∷◌, ◌++◌, map, append-nil, ℕ, ◌+◌, ◌-◌, ◌*◌, ◌/◌, ◌%◌, ◌^◌, ◌<◌, ◌≤◌, min, arith, eqb, ltb, lit<, length, take, drop, length-take, ltb-true, ltb-false, ne_eqb, on, inputs, only, put, without, with_half, test, no_inputs}
use Rattle.rules.specs.Lines.{Lines, Made, event, with_irr, with_mask, pending_in, served_in, serve, enter, leave, newly_unmasked, newly_masked, polled, raised, lowered, cleared, masked}
use Rattle.rules.specs.Ring.{Event, capacity, drawn, ring_step, ring_run}
use Rattle.rules.specs.Core.{Core, poll, raise, lower, clear, set_mask, Act, move, set_isr, store, set_vector, moved, line_turn, turn, turns}
use Rattle.rules.specs.Access.{Width}
use Rattle.rules.specs.Device.{Device, WellFormed, Call, Step, Value, none, some, value, acts_of, acted, offers, step, amount}
use Rattle.rules.specs.Numbering.{Numbers, WellNumbered, drained_length, quads_in, events_in, returned_with, drained_with, value_with}
use Rattle.rules.specs.History.{history}
use Rattle.images.specs.Image.{numbers_in}
use Rattle.calls.specs.Calls.{pass, Request, calls, asked_by, answered, value_in, buffer_of, place_of, written, Outcome}
use Rattle.calls.proofs.laws.{Requests.by_request, Answers.none_read, Answers.some_read, Answers.value_read, Answers.length_with, Answers.events_with, Answers.events_read}
use Rattle.histories.specs.Demands.{returned_in}
use Rattle.histories.specs.exported.Exported.{Exported, left_by, is_done, is_load, Underway, carried_on, NoLoads, done_call, done_calls, current, Faithful, in_answer, returned_to, drained_to, returned_by, drained_by}
use Rattle.laws.proofs.laws.Sets.{only_served}
use Rattle.histories.proofs.laws.{Reach.ReturnsNone, Reach.write_returns_none, Folds.fold_acts, Folds.history_append, Draining.returned_append, WellFormed.ByteEvents, WellFormed.step_events}
use Rattle.histories.proofs.exported.laws.Chains.{current_well, handed, faithful_on, carried_on_lem}
use Rattle.rules.specs.Device as device
use Rattle.calls.specs.Calls as request

-- ---- a level or poll call returns at most one event

-- at most one event, returned, an assert (true) or a deassert
pub data Single (b : Bool) : List Made → Type 0 where
  nothing : Single b []
  one : (m : Made) → m.offered ≡ false → m.asserted ≡ b → Single b (m ∷ [])

serve_single : (vs : List ℕ) (l : Lines) (ns : List ℕ) → Single true (serve vs false l ns).made
serve_single vs l [] = nothing
serve_single vs l (n ∷ ns) = one (event vs false true n) refl refl

pub level_single : (d : Device) (n : ℕ) (b : Bool) → Single b (step d (device.level n b)).made
unfolding step acts_of turns line_turn moved raised polled lowered
level_single d n true =
    let k = with_irr d.core.lines (put d.core.lines.irr n) in
    rw append-nil (serve_single d.core.vectors k (inputs (pending_in (only n) k)))
level_single d n false =
    let k = with_irr d.core.lines (without d.core.lines.irr (only n)) in
    test (ltb n 64)
    (λ h.
    rw (append-nil, only_served n k (ltb-true n 64 h))
    (test (on d.core.lines.isr n) (λ t. rw t (one (event d.core.vectors false false n) refl refl)) (λ t. rw t nothing)))
    (λ h.
    let past = ltb-false n 64 h in
    rw (append-nil, no_inputs (served_in (only n) k) (λ i b. rw (ne_eqb i n (omega arith)) (and-false (on k.isr i)))) nothing)

pub poll_single : (d : Device) (n : ℕ) → Single true (step d (device.poll n)).made
unfolding step acts_of turns line_turn moved polled
poll_single d n = rw append-nil (serve_single d.core.vectors d.core.lines (inputs (pending_in (only n) d.core.lines)))

-- the event that a value is: its vector is the low byte
abbrev event_of : Bool → Value → List Event
event_of b none = []
event_of b (some v) = record { vector = v % 256; asserted = b } ∷ []

-- an answer area holds it, with its number
pub none_answered : (b : Bool) (a : List ℕ) → in_answer b (answered 0 none a) ≡ []
none_answered b a = rw (none_read 0 a)

pub some_answered : (b : Bool) (v : ℕ) (a : List ℕ) → v < 2 ^ 64
    → in_answer b (answered 0 (some v) a) ≡ record { event = record { vector = v % 256; asserted = b }; number = v / 2 ^ 16 } ∷ []
some_answered b v a h =
    rw (some_read 0 a v)
    (λ i. record { event = record { vector = value_read 0 a v h i % 256; asserted = b }; number = value_read 0 a v h i / 2 ^ 16 } ∷ [])

event_read : (b : Bool) (x : Value) (a : List ℕ) → amount x < 2 ^ 64 → events_in (in_answer b (answered 0 x a)) ≡ event_of b x
event_read b none a h = ap events_in (none_answered b a)
event_read b (some v) a h = ap events_in (some_answered b v a h)

-- the vector is a byte, and the number has 16 bits behind it
module _ (s : Numbers) (h : s.next < 2 ^ 16) where
  single_returned : (b : Bool) (ms : List Made) → Single b ms → ByteEvents ms → event_of b (returned_with s ms) ≡ returned_in ms
  unfolding returned_in
  single_returned b ms nothing e = refl
  single_returned b ms (one m o a) e =
      let low : (m.vector + 2 ^ 16 * s.next) % 256 ≡ m.vector = omega (arith, e 0) in
      rw o (λ i. record { vector = low i; asserted = sym a i } ∷ [])

  pub returned_below : (b : Bool) (ms : List Made) → Single b ms → ByteEvents ms → amount (returned_with s ms) < 2 ^ 64
  returned_below b ms nothing e = lit< tt
  returned_below b ms (one m o a) e = rw o (omega (arith, e 0, h))

  single_read : (b : Bool) (ms : List Made) (a : List ℕ) → Single b ms → ByteEvents ms → events_in (in_answer b (answered 0 (returned_with s ms) a)) ≡ returned_in ms
  single_read b ms a t e = event_read b (returned_with s ms) a (returned_below b ms t e) ∙ single_returned b ms t e

-- ---- a write returns none

offered_only : (vs : List ℕ) (a : Bool) (ns : List ℕ) → returned_in (map (event vs true a) ns) ≡ []
unfolding returned_in
offered_only vs a [] = refl
offered_only vs a (n ∷ ns) = offered_only vs a ns

left_offered : (vs : List ℕ) (f : ℕ → Bool) (l : Lines) → returned_in (leave vs true f l).made ≡ []
left_offered vs f l = offered_only vs false (inputs (served_in f l))

served_offered : (vs : List ℕ) (l : Lines) (ns : List ℕ) → returned_in (serve vs true l ns).made ≡ []
unfolding returned_in
served_offered vs l [] = refl
served_offered vs l (n ∷ ns) = refl

act_returns_none : (c : Core) (a : Act) → ReturnsNone a → returned_in (turn c a).made ≡ []
unfolding line_turn moved cleared masked returned_in
act_returns_none c (move (poll n)) t = absurd t
act_returns_none c (move (raise n)) t = absurd t
act_returns_none c (move (lower n)) t = absurd t
act_returns_none c (move (clear b)) t = left_offered c.vectors (on b) (with_irr c.lines (without c.lines.irr (on b)))
act_returns_none c (move (set_mask h v)) t =
    let vs = c.vectors in
    let new = with_half h c.lines.mask v in
    let k = with_mask c.lines new in
    let begun = enter vs true (newly_unmasked c.lines.mask new) k in
    let masks = newly_masked c.lines.mask new in
    returned_append begun.made (leave vs true masks begun.after).made
    ∙ ap₂ ◌++◌ (served_offered vs k (inputs (pending_in (newly_unmasked c.lines.mask new) k))) (left_offered vs masks begun.after)
act_returns_none c (set_isr h v) t = refl
act_returns_none c (store s) t = refl
act_returns_none c (set_vector n v) t = refl

pub write_returns : (d : Device) (w : Width) (o v : ℕ) → returned_in (step d (device.write w o v)).made ≡ []
unfolding step acts_of returned_in
write_returns d w o v =
    fold_acts (λ c ms e. returned_in ms ≡ []) (λ c. refl) (λ c e f xs ys x y. returned_append xs ys ∙ ap₂ ◌++◌ x y) ReturnsNone act_returns_none d.core
    (write_returns_none d.core w o v)

-- ---- what is read of one call is what its step gives

module _ (d : Device) (w : WellFormed d) (s : Numbers) (v : WellNumbered d s) where
  reads_returned : (a : List ℕ) (q : Request) (c : Call) → asked_by q ≡ calls (pass c) → returned_to q (answered 0 (value_with d s c) a) ≡ returned_in (step d c).made
  unfolding value_with step acts_of acted turns returned_in
  reads_returned a =
      by_request (λ q c. returned_to q (answered 0 (value_with d s c) a) ≡ returned_in (step d c).made) (λ base size address width y o. refl)
      (λ base size address width x y o. sym (write_returns d y o x))
      (λ n x. let b = not (eqb x 0) in single_read s v.next b (step d (device.level n b)).made a (level_single d n b) (step_events d (device.level n b) w))
      (λ n. single_read s v.next true (step d (device.poll n)).made a (poll_single d n) (step_events d (device.poll n) w)) (λ buffer place. refl)

  pub drained_below : (k : ℕ) → length (step d (device.drain k)).drained ≤ capacity
  unfolding step acts_of acted turns offers ring_run ring_step drawn
  drained_below k = simp (append-nil, length-take) (omega (arith, w.waiting))

  -- what is drained has as many numbers, and without them it is what the device drained
  drained_many : (k : ℕ) → length (step d (device.drain k)).drained ≡ length (take k s.waiting)
  unfolding step acts_of acted turns offers ring_run ring_step drawn
  drained_many k =
      ap length (append-nil (take k d.ring.waiting)) ∙ length-take k d.ring.waiting ∙ ap (min k) (sym v.waiting) ∙ sym (length-take k s.waiting)

  pub drained_length_lem : (k : ℕ) → length (drained_with d s (device.drain k)) ≡ length (step d (device.drain k)).drained
  unfolding drained_with
  drained_length_lem k = length_with (step d (device.drain k)).drained (take k s.waiting) (drained_many k)

  pub drained_events : (k : ℕ) → events_in (drained_with d s (device.drain k)) ≡ (step d (device.drain k)).drained
  unfolding drained_with
  drained_events k = events_with (step d (device.drain k)).drained (take k s.waiting) (drained_many k)

  -- and a host reads how many
  pub drained_told : (k : ℕ) (a : List ℕ) → value_in (answered 0 (value_with d s (device.drain k)) a) ≡ length (drained_with d s (device.drain k))
  unfolding value value_with
  drained_told k a = value_read 0 a (length (step d (device.drain k)).drained) (omega (arith, drained_below k)) ∙ sym (drained_length_lem k)

  reads_drained : (a : List ℕ) (q : Request) (c : Call) → asked_by q ≡ calls (pass c) → place_of q ≤ length (buffer_of q)
      → drained_to q (answered 0 (value_with d s c) a) (written (buffer_of q) (place_of q) (drained_with d s c)) ≡ (step d c).drained
  unfolding step ring_run
  reads_drained a =
      by_request (λ q c. place_of q ≤ length (buffer_of q) → drained_to q (answered 0 (value_with d s c) a) (written (buffer_of q) (place_of q) (drained_with d s c)) ≡ (step d c).drained)
      (λ base size address width y o h. refl) (λ base size address width x y o h. refl) (λ n x h. refl) (λ n h. refl)
      (λ buffer place h.
      let k = (length buffer - place) / drained_length in
      let xs = drained_with d s (device.drain k) in
      ap (λ n. events_in (quads_in n (drop place (written buffer place xs)))) (drained_told k a) ∙ events_read xs buffer place h ∙ drained_events k)

-- ---- along exported calls

module _ (h : Underway) (f : Faithful h) (x : Exported) (n : is_load h.left x ≡ false) where
  well : WellFormed (current h)
  well = current_well h f

  one_returned : cond (is_done x) (returned_to x.asked (left_by x).answer) [] ≡ returned_in (history (current h) (done_call x)).made
  unfolding history returned_in
  one_returned =
      test (is_done x)
      (λ t.
      let r = handed h x f t n in
      let ns = numbers_in x.given in
      let answer : (left_by x).answer ≡ answered 0 (value_with (current h) ns r.call) x.answer = ap (λ (o : Outcome). o.answer) r.left in
      rw (t, r.passes, answer, append-nil) (reads_returned (current h) well ns r.numbered x.answer x.asked r.call r.passes))
      (λ t. rw t)

  one_drained : cond (is_done x) (drained_to x.asked (left_by x).answer (left_by x).events) [] ≡ (history (current h) (done_call x)).drained
  unfolding history
  one_drained =
      test (is_done x)
      (λ t.
      let r = handed h x f t n in
      let ns = numbers_in x.given in
      let es = written (buffer_of x.asked) (place_of x.asked) (drained_with (current h) ns r.call) in
      let answer : (left_by x).answer ≡ answered 0 (value_with (current h) ns r.call) x.answer = ap (λ (o : Outcome). o.answer) r.left in
      let events : (left_by x).events ≡ es = ap (λ (o : Outcome). o.events) r.left in
      rw (t, r.passes, answer, events, append-nil) (reads_drained (current h) well ns r.numbered x.answer x.asked r.call r.passes r.fits))
      (λ t. rw t)

-- what a host has read is what a history returned and drained
pub record ReadAs (xs : List Exported) (s : Step) : Type 0 where
  pub returned : returned_by xs ≡ returned_in s.made
  pub drained : drained_by xs ≡ s.drained

pub read_as : (h : Underway) → Faithful h → (xs : List Exported) → NoLoads h xs → ReadAs xs (history (current h) (done_calls xs))
unfolding history done_calls NoLoads returned_by drained_by returned_in
read_as h f [] n = record { returned = refl; drained = refl }
read_as h f (x ∷ xs) n =
    let e = (carried_on_lem h x f n.0).current in
    let rest = read_as (carried_on h x) (faithful_on h x f (λ t. absurd (true≢false (sym t ∙ n.0)))) xs n.1 in
    let met = history (current h) (done_call x) in
    let whole = history_append (current h) (done_call x) (done_calls xs) in
    record {
      returned =
          ap₂ ◌++◌ (one_returned h f x n.0) (rest.returned ∙ ap (λ d. returned_in (history d (done_calls xs)).made) e)
          ∙ sym (returned_append met.made (history met.after (done_calls xs)).made) ∙ ap (λ (s : Step). returned_in s.made) (sym whole);
      drained =
          ap₂ ◌++◌ (one_drained h f x n.0) (rest.drained ∙ ap (λ d. (history d (done_calls xs)).drained) e) ∙ ap (λ (s : Step). s.drained) (sym whole);
    }
