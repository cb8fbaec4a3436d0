-- How a drain of an accepted image ends.
use Rattle.basics.proofs.Prelude.{◌≡◌, refl, sym, ap, ◌∙◌, List, ◌++◌, ℕ, ◌+◌, ◌-◌, ◌*◌, ◌/◌, min, arith, length, take, drop, length-take}
use Rattle.images.specs.{Form.Form, Image.encode_like, Image.decode, Image.numbers_in}
use Rattle.rules.specs.{Ring.Event, Ring.Drawn, Ring.drawn, Device.some, Device.value}
use Rattle.rules.specs.Numbering.{Numbered, with_numbers, drained_length, quads_of, fewer, drained_with, value_with}
use Rattle.rules.proofs.laws.{Numbered.drain_numbers, Steps.with_ring, Steps.drain_device, Steps.drain_drained}
use Rattle.calls.{specs.Calls.written, specs.Calls.ending, proofs.laws.Outcomes.call_done, proofs.laws.Answers.length_with}
use Rattle.laws.proofs.laws.Images.{encode_same}
use Rattle.drain.specs.drains.Drained.{Drains}
use Rattle.fields.{specs.inplace.Passed.Passed, proofs.inplace.Passing.here}
use Rattle.rules.specs.Device as device
use Rattle.calls.specs.Calls as asked

module _ {f : Form} {i : List ℕ} (p : Passed f i) (entry : List ℕ) {n : ℕ} {j exit : List ℕ} (s : length j ≡ length i) (d : Drains i j entry exit n) where
  abbrev room : ℕ
  room = (length entry - 0) / drained_length

  same_room : length entry / drained_length ≡ room
  same_room = let z : length entry ≡ length entry - 0 = omega arith in ap (λ (k : ℕ). k / drained_length) z

  abbrev drew : Drawn
  drew = drawn (decode i).ring room

  -- what came out, each with its number
  abbrev out : List Numbered
  out = with_numbers drew.drained (take room (numbers_in i).waiting)

  count : n ≡ length drew.drained
  count = d.does.gives (decode i) (numbers_in i) (here p) ∙ ap (λ (k : ℕ). length (drawn (decode i).ring k).drained) same_room

  -- as many numbers come out as events
  as_many : length out ≡ length drew.drained
  unfolding drawn
  as_many =
      let es = (decode i).ring.waiting in
      let ns = (numbers_in i).waiting in
      length_with drew.drained (take room ns) (length-take room es ∙ ap (min room) (sym (here p).numbered.waiting) ∙ sym (length-take room ns))

  written_out : exit ≡ written entry 0 (drained_with (decode i) (numbers_in i) (device.drain room))
  unfolding written drained_with
  written_out =
      let z : drained_length * n ≡ 0 + drained_length * length out = omega (arith, count, as_many) in
      d.events (decode i) (numbers_in i) (here p)
      ∙ (λ t. quads_of (with_numbers (drawn (decode i).ring (same_room t)).drained (take (same_room t) (numbers_in i).waiting)) ++ drop (z t) entry)
      ∙ ap (λ (es : List Event). quads_of (with_numbers es (take room (numbers_in i).waiting)) ++ drop (0 + drained_length * length (with_numbers es (take room (numbers_in i).waiting))) entry)
      (sym (drain_drained (decode i) room))

  pub drain_done : record { number = 0; value = some n; image = j; events = exit } ≡ ending (asked.drain entry 0) i
  unfolding value value_with
  drain_done =
      call_done (asked.drain entry 0) i _ refl p.good (device.drain room) refl (with_ring (decode i) drew.after) (fewer (numbers_in i) room) (some n) j exit
      ((d.does.becomes (decode i) (numbers_in i) (here p)).image ∙ encode_same j i s _ _
      ∙ ap (λ (k : ℕ). encode_like i (with_ring (decode i) (drawn (decode i).ring k).after) (fewer (numbers_in i) k)) same_room)
      (sym (drain_device (decode i) room)) (sym (drain_numbers (decode i) (numbers_in i) room))
      (ap some (count ∙ sym (ap length (drain_drained (decode i) room)))) written_out
