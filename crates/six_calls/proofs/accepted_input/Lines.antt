-- How a call on an input of an accepted image ends: there is no such input, or the lines took its move.
use Rattle.std.proofs.Common.{Err}
use Rattle.basics.proofs.Prelude.{◌≡◌, refl, sym, ap, subst, ◌∙◌, Bool, true, false, cond, not, List, [], ◌∷◌, map, ℕ, ◌<◌, ◌≤◌, eqb, length, on, inputs, only, put, without}
use Rattle.rules.specs.Lines.{Lines, Made, with_irr, event, pending_in, serve, polled, raised, lowered}
use Rattle.rules.specs.Core.{Act, Move, move, poll, raise, lower, moved, turns}
use Rattle.rules.specs.Device.{Device, Call, Value, none, acts_of, draws, offers, acted, step, returned}
use Rattle.rules.specs.Numbering.{Numbers, takes_all, returned_with, room_of, drained_with, value_with}
use Rattle.rules.proofs.laws.{Acts.step_acted, Numbered.undrained, Steps.moved_device, Steps.moved_made}
use Rattle.images.specs.{Form.Form, Image.decode, Image.numbers_in}
use Rattle.calls.specs.Calls.{no_input, input_call, Request, calls, asked_by, buffer_of, place_of, written, ending}
use Rattle.calls.proofs.laws.Outcomes.{call_refused, call_done, no_events, input_refused, input_passed}
use Rattle.laws.proofs.laws.{Sets.only_served, Images.encode_same}
use Rattle.fields.{specs.inplace.Held.Returns, specs.inplace.Passed.Passed, proofs.inplace.Doing.same_numbers, proofs.inplace.Passing.long, proofs.inplace.Passing.here}
use Rattle.answer.specs.{Given.ends, declared.refusals.Refusal.TheVariants.NoInput}
use Rattle.six_calls.specs.accepted_input.Returned.{value_numbered, taken_for, TakesNumber}
use Rattle.lines.specs.service.Offered.{level_move}
use Rattle.rules.specs.Device as device
use Rattle.calls.specs.Calls as asked

-- ---- a move that returns its event makes one at most

pub record OneEvent (ms : List Made) : Type 0 where
  pub taken : (s : Numbers) → takes_all s ms ≡ taken_for (returned ms) s
  pub told : (s : Numbers) → returned_with s ms ≡ value_numbered s.next (returned ms)
  pub quiet : offers ms ≡ []

none_made : OneEvent []
unfolding takes_all offers
none_made = record { taken = λ s. refl; told = λ s. refl; quiet = refl }

one_made : (vs : List ℕ) (b : Bool) (n : ℕ) → OneEvent (event vs false b n ∷ [])
unfolding takes_all offers
one_made vs b n = record { taken = λ s. refl; told = λ s. refl; quiet = refl }

serve_one : (vs : List ℕ) (l : Lines) (ns : List ℕ) → OneEvent (serve vs false l ns).made
serve_one vs l [] = none_made
serve_one vs l (n ∷ ns) = one_made vs true n

module _ (vs : List ℕ) (l : Lines) (n : ℕ) where
  poll_one : OneEvent (moved vs l (poll n)).made
  unfolding moved polled
  poll_one = serve_one vs l (inputs (pending_in (only n) l))

  raise_one : OneEvent (moved vs l (raise n)).made
  unfolding moved raised polled
  raise_one = let m = with_irr l (put l.irr n) in serve_one vs m (inputs (pending_in (only n) m))

  lower_one : n < 64 → OneEvent (moved vs l (lower n)).made
  unfolding moved lowered
  lower_one h = let m = with_irr l (without l.irr (only n)) in subst (λ ns. OneEvent (map (event vs false false) ns)) (sym (only_served n m h)) (by (on m.isr n))
    where
      by : (b : Bool) → OneEvent (map (event vs false false) (cond b (n ∷ []) []))
      by true = one_made vs false n
      by false = none_made

module _ {f : Form} {i : List ℕ} (p : Passed f i) (n : ℕ) where
  pub no_input_lem : (q : Request) (c : Call) → asked_by q ≡ calls (input_call n c) → 64 ≤ n → ends (Err NoInput) i (buffer_of q) ≡ ending q i
  no_input_lem q c asks h = sym (call_refused q i _ asks p.good no_input (input_refused n c h))

  module _ (below : n < 64) {j k : List ℕ} (same : length j ≡ length i) (still : length k ≡ length i) {v w : Value} (t : TakesNumber j k v w) where
    input_done : (q : Request) (c : Call) (m : Move) → asked_by q ≡ calls (input_call n c) → draws c ≡ [] → room_of c ≡ 0 → acts_of (decode i).core c ≡ move m ∷ []
        → OneEvent (moved (decode i).core.vectors (decode i).core.lines m).made → value_with (decode i) (numbers_in i) c ≡ returned_with (numbers_in i) (step (decode i) c).made
        → [] ≡ written (buffer_of q) (place_of q) (drained_with (decode i) (numbers_in i) c) → Returns i j v m → record { number = 0; value = w; image = k; events = [] } ≡ ending q i
    unfolding step
    input_done q c m asks none-drawn no_room_lem acts one val events r =
        let d = decode i in
        let s = numbers_in i in
        let made = (turns d.core (move m ∷ [])).made in
        let is_made : made ≡ (moved d.core.vectors d.core.lines m).made = moved_made d m one.quiet in
        let its : OneEvent made = subst OneEvent (sym is_made) one in
        let first = r.becomes d s (here p) in
        let ring : length d.ring.waiting ≡ length (acted d (move m ∷ [])).ring.waiting = ap (λ (e : Device). length e.ring.waiting) (sym (moved_device d m one.quiet)) in
        let vector : v ≡ returned made = r.gives d s (here p) in
        let next = ap (λ (u : Numbers). u.next) (same_numbers f (long p) same (here p) first ring) in
        let acted-so = ap (λ (xs : List Act). (turns d.core xs).made) (sym acts) in
        call_done q i _ asks p.good c (input_passed n c below) (acted d (move m ∷ [])) (taken_for v s) w k []
        ((t.becomes _ s first).image ∙ encode_same k i still _ _)
        (sym (step_acted d c none-drawn ∙ ap (acted d) acts))
        (ap (λ y. taken_for y s) vector ∙ sym (its.taken s) ∙ ap (takes_all s) acted-so ∙ sym (undrained d s c no_room_lem))
        (t.gives _ s first ∙ (λ u. value_numbered (next u) (vector u)) ∙ sym (its.told s) ∙ ap (returned_with s) acted-so ∙ sym val) events

    pub level_done : (lv : ℕ) → Returns i j v (level_move n (not (eqb lv 0))) → record { number = 0; value = w; image = k; events = [] } ≡ ending (asked.level n lv) i
    unfolding acts_of value_with
    level_done lv r = by (not (eqb lv 0)) refl r
      where
        by : (b : Bool) → asked_by (asked.level n lv) ≡ calls (input_call n (device.level n b)) → Returns i j v (level_move n b) → record { number = 0; value = w; image = k; events = [] } ≡ ending (asked.level n lv) i
        by true asks r = input_done (asked.level n lv) (device.level n true) (raise n) asks refl refl refl (raise_one _ _ n) refl (no_events (decode i) (numbers_in i) (device.level n true) refl) r
        by false asks r = input_done (asked.level n lv) (device.level n false) (lower n) asks refl refl refl (lower_one _ _ n below) refl (no_events (decode i) (numbers_in i) (device.level n false) refl) r

    pub poll_done : Returns i j v (poll n) → record { number = 0; value = w; image = k; events = [] } ≡ ending (asked.poll n) i
    unfolding acts_of value_with
    poll_done r = input_done (asked.poll n) (device.poll n) (poll n) refl refl refl refl (poll_one _ _ n) refl (no_events (decode i) (numbers_in i) (device.poll n) refl) r
