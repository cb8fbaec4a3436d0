-- What playing one record has to show: of a drain of all, and of any other call.
use Rattle.basics.proofs.Prelude.{◌≡◌, sym, ap, ◌∙◌, true, and-eq-true_iff, List, [], ℕ, ◌*◌, ◌≤◌, zero-le, arith, eqb, leb, take-nil, leb-true, length, replicate, put_mid, part, test}
use Rattle.rules.specs.{Device.Value, Device.some, Numbering.drained_length}
use Rattle.images.specs.Form.{Form}
use Rattle.calls.specs.Calls.{answer_length, answered, value_in, ending, settled, Outcome}
use Rattle.fields.specs.inplace.Passed.{Passed}
use Rattle.traces.specs.{Trace.Record, Trace.is_kind, Trace.is_good, Played.drain_room, Played.request_of, Played.asked, Played.played_on, Played.drained_in, plays.Playing.in_front}
use Rattle.traces.proofs.plays.laws.{Drained.asked_ends, Drained.answer_whole, Drained.drained_fit, Drained.Drew, Drained.drew, Keeps.in_front_lem, InFront.front_part}
use Rattle.pch_pic_trace.specs.record_step.Step.{Steps}
use Rattle.pch_pic_trace.proofs.record_call.Requests.{drains_all}
use Rattle.calls.specs.Calls as request

module _ {f : Form} {i : List ℕ} (p : Passed f i) (r : Record) (kind : r.kind ≡ 6) (entry : List ℕ) (room : length entry ≡ drain_room) {n : ℕ} {j exit : List ℕ}
    (d : record { number = 0; value = some n; image = j; events = exit } ≡ ending (request.drain entry 0) i) where
  drained : Drew i p.bytes p.good entry 0 (some n) j exit
  drained = drew i p.bytes p.good entry room d

  -- the outcome of the record's own call
  its : asked (request.drain (replicate drain_room 0) 0) i ≡ played_on i r
  its = ap (λ q. asked q i) (sym (drains_all r kind))

  -- events of four bytes each, in front of the sixty-four
  pub four_each : drained_length * n ≤ drain_room
  four_each = omega (arith, drained.count, drained_fit i p.bytes p.good)

  pub drain_steps : (a : List ℕ) → length a ≡ answer_length → {b : List ℕ} → b ≡ answered 0 (some n) a → Steps r i j b entry exit (drained_length * n)
  drain_steps a whole told = record {
    image = drained.image ∙ ap (λ (o : Outcome). o.image) its;
    answer = told ∙ answer_whole 0 (some n) a whole ∙ drained.answer ∙ ap (λ (o : Outcome). o.answer) its;
    count = drained.count ∙ ap (λ (o : Outcome). length (drained_in o)) its;
    events = drained.events ∙ ap (λ (o : Outcome). in_front (drained_in o) entry) its;
    room = rw kind four_each;
  }

-- the sixty-four are the first of the events that were lent
pub widened : (r : Record) (i es : List ℕ) {j b fs : List ℕ} {n : ℕ} → drain_room ≤ length es → n ≤ drain_room → Steps r i j b (part 0 drain_room es) fs n → Steps r i j b es (put_mid 0 drain_room es fs) n
widened r i es h g s = record {
  image = s.image;
  answer = s.answer;
  count = s.count;
  events = ap (put_mid 0 drain_room es) s.events ∙ front_part (drained_in (played_on i r)) es drain_room (omega (arith, s.count, g)) h;
  room = s.room;
}

-- any other call drains nothing
module _ (i : List ℕ) (r : Record) (a : List ℕ) {b : List ℕ} (whole : length a ≡ answer_length) {n : ℕ} {v : Value} {j : List ℕ}
    (d : record { number = n; value = v; image = j; events = [] } ≡ ending (request_of r) i) (told : b ≡ answered n v a) where
  settles : settled (replicate answer_length 0) (record { number = n; value = v; image = j; events = [] }) ≡ played_on i r
  settles = ap (settled (replicate answer_length 0)) d ∙ sym (asked_ends (request_of r) i (in_front_lem r))

  nothing : [] ≡ drained_in (played_on i r)
  nothing = test (eqb n 0) (λ t. rw t (sym (take-nil (drained_length * value_in (answered n v (replicate answer_length 0)))))) (λ t. rw t) ∙ ap drained_in settles

  pub call_steps : (es : List ℕ) → Steps r i j b es es 0
  call_steps es = record {
    image = ap (λ (o : Outcome). o.image) settles;
    answer = told ∙ answer_whole n v a whole ∙ ap (λ (o : Outcome). o.answer) settles;
    count = ap length nothing;
    events = ap (λ xs. in_front xs es) nothing;
    room = zero-le;
  }

-- a good record's kind is 1 to 6
pub good_kind : (r : Record) → is_good r ≡ true → (1 ≤ r.kind) × (r.kind ≤ 6)
unfolding is_good
good_kind r e =
    let k = (and-eq-true_iff (leb 1 r.kind) (leb r.kind 6)).0 ((and-eq-true_iff (is_kind r.kind) _).0 e).0 in
    (leb-true 1 r.kind k.0, leb-true r.kind 6 k.1)
