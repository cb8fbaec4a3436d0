-- What the exported call leaves that plays a trace on from an image: refused, not a byte of image, answers and events changes, and 7 writes none at all; done, all is as the
-- calls one after another leave it, made on that image.
use Rattle.basics.proofs.Prelude.{◌≡◌, refl, sym, ap, subst, ◌∙◌, Bool, true, List, ℕ, ◌*◌, ◌<◌, ◌≤◌, arith, length, take, le-leb, part, Bytes}
use Rattle.rules.specs.Device.{none, some}
use Rattle.calls.specs.Calls.{fault_number, answer_length, answered}
use Rattle.images.specs.Image.{Fault, copy_differs, many_wait, bad_flag, unused_set, ImageTest, accepted, image_test}
use Rattle.traces.specs.{Trace.record_count, Trace.nth, Trace.TraceTest, Trace.good, Trace.trace_test, Played.played_on, Played.drained_in, Played.played_through}
use Rattle.traces.specs.plays.Playing.{played_on_to, play_room, plays, trace_left, image_left, play_on_test, PlayLeft, play_leaves, in_front, playing_on}
use Rattle.traces.proofs.plays.{laws.Ways.Untouched, laws.Ways.one_played, laws.Ways.named_by, laws.Ways.trace_named, laws.Ways.left_if, laws.Ways.refused_way, laws.Ways.untouched_way, laws.Ways.seven_way, laws.Ways.done_way, laws.Ways.played_way, laws.Ways.record_way, laws.Ways.events_way, laws.Ways.its_events_way, demands.Accepted.Fit, demands.Accepted.each_fits_on}
use Rattle.images.specs.Image as image
use Rattle.traces.proofs.plays.laws.Computed as computed

module _ (l i bs es a : List ℕ) where
  -- not done: image, answers and events are as they were
  pub refused_on_untouched : ((playing_on l i bs es a).number ≡ 0 → ⊥) → Untouched i bs es (playing_on l i bs es a)
  unfolding playing_on
  refused_on_untouched n = untouched_way l i i bs es a (play_on_test l i bs es) n

  -- 7: nor is the answer area
  pub seven_on_untouched : (playing_on l i bs es a).number ≡ 7 → (playing_on l i bs es a).answer ≡ a
  unfolding playing_on
  seven_on_untouched s = seven_way l i i bs es a (play_on_test l i bs es) s

  abbrev pub whole_on : PlayLeft
  whole_on = play_leaves 0 (played_through l i).image (in_front (played_through l i).answers bs) (in_front (played_through l i).events es) (answered 0 (some (record_count l)) a)

  -- any good trace is played on any accepted image, where there is room
  pub plays_on : answer_length ≤ length a → image_test i ≡ accepted → {first n : ℕ} → trace_test l ≡ good first n → play_room l bs es ≡ true → playing_on l i bs es a ≡ whole_on
  unfolding playing_on play_on_test
  plays_on h e f r = rw (e, f, r) (done_way l i i bs es a (le-leb answer_length (length a) h))

-- ---- after each record, in the bytes that a done call leaves

-- no refusal has the number 0
fault_named : (k : Fault) (n : ℕ) (t : TraceTest) (b : Bool) → named_by (image_left (image.broken k n) (trace_left t b)) ≡ 0 → ⊥
fault_named copy_differs n t b e = omega (arith, e)
fault_named many_wait n t b e = omega (arith, e)
fault_named bad_flag n t b e = omega (arith, e)
fault_named unused_set n t b e = omega (arith, e)

never_zero : (x : ImageTest) (t : TraceTest) (b : Bool) → named_by (image_left x (trace_left t b)) ≡ 0 → ⊥
never_zero image.accepted t b e = trace_named t b e
never_zero image.wrong_length t b e = omega (arith, e)
never_zero image.wrong_contents t b e = omega (arith, e)
never_zero (image.broken k n) t b e = fault_named k n t b e

module _ (l i bs es a : List ℕ) (done : (playing_on l i bs es a).number ≡ 0) where
  abbrev bytes : PlayLeft
  bytes = playing_on l i bs es a

  not_zero : named_by (play_on_test l i bs es) ≡ 0 → ⊥
  unfolding play_on_test
  not_zero e = never_zero (image_test i) (trace_test l) (play_room l bs es) e

  by_found : {x : ImageTest} → image_test i ≡ x → (left_if l i i bs es a (image_left x (trace_left (trace_test l) (play_room l bs es)))).number ≡ 0
  unfolding playing_on play_on_test
  by_found e = ap (λ (x : ImageTest). (left_if l i i bs es a (image_left x (trace_left (trace_test l) (play_room l bs es)))).number) (sym e) ∙ done

  -- so a call that handed back 0 has played
  pub has_played_on : bytes ≡ whole_on l i bs es a
  unfolding playing_on
  has_played_on = played_way l i i bs es a (play_on_test l i bs es) not_zero done

  -- the image was accepted, and so is the one that is left
  pub was_accepted : image_test i ≡ accepted
  was_accepted = go (image_test i) refl
    where
      go : (x : ImageTest) → image_test i ≡ x → image_test i ≡ accepted
      go image.accepted e = e
      go image.wrong_length e = absurd (refused_way l i i bs es a 4 none (λ z. omega (arith, z)) (by_found e))
      go image.wrong_contents e = absurd (refused_way l i i bs es a 5 none (λ z. omega (arith, z)) (by_found e))
      go (image.broken k n) e = absurd (refused_way l i i bs es a (fault_number k) (some n) (λ z. fault_named k n (trace_test l) true z) (by_found e))

  pub left_accepted : Bytes i → Fit i bytes.image
  left_accepted b = subst (Fit i) (sym (ap (λ (p : PlayLeft). p.image) has_played_on)) (each_fits_on i i (record { bytes = b; good = was_accepted; size = refl }) l (record_count l))

  -- record k has its sixteen bytes among the answers: those of the call that it is, on the image that the records before it left
  pub answer_of_record_on : (k : ℕ) → k < record_count l → part (16 * k) 16 bytes.answers ≡ (played_on (played_on_to l k i).image (nth l k)).answer
  answer_of_record_on k h = record_way l i i bs es a has_played_on k h

  -- the events of the first k records stand in front of the others
  pub events_of_first_on : (k : ℕ) → k ≤ record_count l → take (length (played_on_to l k i).events) bytes.events ≡ (played_on_to l k i).events
  events_of_first_on k h = events_way l i i bs es a has_played_on k h

  -- and the events of record k right behind them: those that its own call drained
  pub events_of_record_on : (k : ℕ) → k < record_count l
      → let o = played_on (played_on_to l k i).image (nth l k) in
      part (length (played_on_to l k i).events) (length (drained_in o)) bytes.events ≡ drained_in o
  events_of_record_on k h = its_events_way l i i bs es a has_played_on k h

  -- the image is that of all of them
  pub image_of_all_on : bytes.image ≡ (played_on_to l (record_count l) i).image
  image_of_all_on = ap (λ (p : PlayLeft). p.image) has_played_on

-- ---- one outcome

-- of two runs whose contract holds, the numbers handed back, images, answers, events and answer areas are the same
pub one_play_on : (l i bs es a : List ℕ) {r s : ℕ} {i₁ i₂ bs₁ bs₂ es₁ es₂ a₁ a₂ : List ℕ} → play_leaves r i₁ bs₁ es₁ a₁ ≡ playing_on l i bs es a → play_leaves s i₂ bs₂ es₂ a₂ ≡ playing_on l i bs es a
    → (r ≡ s) × (i₁ ≡ i₂) × (bs₁ ≡ bs₂) × (es₁ ≡ es₂) × (a₁ ≡ a₂)
one_play_on l i bs es a x y = one_played x y
