-- What a drain of all leaves of an accepted image, whatever the bytes were that it was lent; and what any call leaves in an answer area of its own.
use Rattle.basics.proofs.Prelude.{◌≡◌, refl, sym, ap, ◌∙◌, List, ◌++◌, ℕ, ◌+◌, ◌-◌, ◌*◌, ◌/◌, ◌≤◌, zero-le, zero-add, arith, length, take, drop, replicate, drop_of_length-le, take_at, le-leb, Bytes}
use Rattle.rules.specs.{Ring.capacity, Device.WellFormed, Device.Value, Device.value, Device.step, Device.amount}
use Rattle.rules.specs.Numbering.{WellNumbered, Numbered, drained_length, quads_of, numbers_after, drained_with, value_with}
use Rattle.images.specs.Image.{accepted, image_test, encode_like, decode, numbers_in}
use Rattle.calls.specs.Calls.{pass, Request, answer_length, answered, buffer_of, place_of, written, Ending, ending, settled, Outcome, outcome}
use Rattle.calls.proofs.laws.{Outcomes.call_done, Answers.length_quads_of}
use Rattle.laws.proofs.laws.Images.{decode_well_formed, numbers_well}
use Rattle.histories.proofs.exported.laws.Readings.{drained_below, drained_length_lem, drained_told}
use Rattle.traces.specs.Played.{drain_room, asked, drained_in}
use Rattle.rules.specs.Device as device
use Rattle.calls.specs.Calls as request

-- ---- any call, with an answer area of its own

pub asked_ends : (q : Request) (i : List ℕ) → place_of q ≤ length (buffer_of q) → asked q i ≡ settled (replicate answer_length 0) (ending q i)
unfolding outcome
asked_ends q i h = rw (le-leb (place_of q) (length (buffer_of q)) h)

-- sixteen bytes are all replaced
pub answer_whole : (n : ℕ) (v : Value) (a : List ℕ) → length a ≡ answer_length → answered n v a ≡ answered n v (replicate answer_length 0)
unfolding answered
answer_whole n v a h =
    let short : length a ≤ answer_length = omega (arith, h) in
    rw (drop_of_length-le a short)

-- ---- a drain of all

module _ (i : List ℕ) (b : Bytes i) (e : image_test i ≡ accepted) where
  abbrev pub drained_of : List Numbered
  drained_of = drained_with (decode i) (numbers_in i) (device.drain capacity)

  abbrev drain_ends : List ℕ → Ending
  drain_ends entry = record {
    number = 0;
    value = value_with (decode i) (numbers_in i) (device.drain capacity);
    image = encode_like i (step (decode i) (device.drain capacity)).after (numbers_after (decode i) (numbers_in i) (device.drain capacity));
    events = written entry 0 drained_of;
  }

  drain_ends_lem : (entry : List ℕ) → length entry ≡ drain_room → drain_ends entry ≡ ending (request.drain entry 0) i
  drain_ends_lem entry h =
      call_done (request.drain entry 0) i _ refl e (device.drain capacity) (ap (λ (n : ℕ). pass (device.drain ((n - 0) / drained_length))) h) _ _ _ _ _ refl refl refl refl refl

  well : WellFormed (decode i)
  well = decode_well_formed i b e

  numbered : WellNumbered (decode i) (numbers_in i)
  numbered = numbers_well i b e

  -- at most sixteen events
  few : length drained_of ≤ capacity
  few = omega (arith, drained_length_lem (decode i) well (numbers_in i) numbered capacity, drained_below (decode i) well (numbers_in i) numbered capacity)

  abbrev of_zeros : Outcome
  of_zeros = asked (request.drain (replicate drain_room 0) 0) i

  settles : of_zeros ≡ settled (replicate answer_length 0) (drain_ends (replicate drain_room 0))
  settles = asked_ends (request.drain (replicate drain_room 0) 0) i zero-le ∙ ap (settled (replicate answer_length 0)) (sym (drain_ends_lem (replicate drain_room 0) refl))

  -- the events that it is read to have drained are those, four bytes each
  pub drained_all : drained_in of_zeros ≡ quads_of drained_of
  unfolding written
  drained_all =
      let xs = quads_of drained_of in
      ap drained_in settles
      ∙ ap (λ (n : ℕ). take (drained_length * n) (written (replicate drain_room 0) 0 drained_of)) (drained_told (decode i) well (numbers_in i) numbered capacity (replicate answer_length 0))
      ∙ take_at xs (drop (0 + drained_length * length drained_of) (replicate drain_room 0)) (drained_length * length drained_of) (length_quads_of drained_of)

  -- its value is how many they are
  counted : amount (value_with (decode i) (numbers_in i) (device.drain capacity)) ≡ length drained_of
  unfolding value value_with
  counted = sym (drained_length_lem (decode i) well (numbers_in i) numbered capacity)

  -- so no more than there is room for
  pub drained_fit : length (drained_in of_zeros) ≤ drain_room
  drained_fit = omega (arith, ap length drained_all, length_quads_of drained_of, few)

  -- a drain into other bytes gives the same, and puts the events in front of those
  pub record Drew (entry : List ℕ) (n : ℕ) (v : Value) (j exit : List ℕ) : Type 0 where
    pub number : n ≡ of_zeros.number
    pub image : j ≡ of_zeros.image
    pub answer : answered n v (replicate answer_length 0) ≡ of_zeros.answer
    pub events : exit ≡ drained_in of_zeros ++ drop (length (drained_in of_zeros)) entry
    pub count : drained_length * amount v ≡ length (drained_in of_zeros)

  pub drew : (entry : List ℕ) → length entry ≡ drain_room → {n : ℕ} {v : Value} {j exit : List ℕ}
      → record { number = n; value = v; image = j; events = exit } ≡ ending (request.drain entry 0) i → Drew entry n v j exit
  unfolding written
  drew entry h d =
      let f = d ∙ sym (drain_ends_lem entry h) in
      let z : drained_length * length drained_of ≡ length (drained_in of_zeros) = omega (arith, ap length drained_all, length_quads_of drained_of) in
      record {
        number = ap (λ (x : Ending). x.number) f ∙ sym (ap (λ (o : Outcome). o.number) settles);
        image = ap (λ (x : Ending). x.image) f ∙ sym (ap (λ (o : Outcome). o.image) settles);
        answer = ap (λ (x : Ending). answered x.number x.value (replicate answer_length 0)) f ∙ sym (ap (λ (o : Outcome). o.answer) settles);
        events = ap (λ (x : Ending). x.events) f ∙ (λ t. sym drained_all t ++ drop ((zero-add (drained_length * length drained_of) ∙ z) t) entry);
        count = ap (λ (x : Ending). drained_length * amount x.value) f ∙ ap (λ (n : ℕ). drained_length * n) counted ∙ z;
      }
