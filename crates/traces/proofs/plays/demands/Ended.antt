-- What the exported call leaves (02, C-11): refused, not a byte of image, answers and events changes, and 7 writes none at all; done, all is as the calls one after another leave it.
use Rattle.basics.proofs.Prelude.{◌≡◌, sym, ap, ◌∙◌, Bool, true, List, ℕ, ◌*◌, ◌<◌, ◌≤◌, arith, leb, length, take, part}
use Rattle.rules.specs.Device.{some}
use Rattle.calls.specs.Calls.{answer_length, answered}
use Rattle.images.specs.Form.{Known, unknown, known, form_of}
use Rattle.traces.specs.{Trace.record_count, Trace.nth, Trace.TraceTest, Trace.trace_test, Played.played_on, Played.drained_in, Played.afresh, Played.played}
use Rattle.traces.specs.plays.Playing.{played_to, play_room, plays, trace_left, length_left, play_test, PlayLeft, play_leaves, in_front, playing}
use Rattle.traces.proofs.plays.laws.Ways.{Untouched, one_played, named_by, trace_named, untouched_way, seven_way, done_way, played_way, record_way, events_way, its_events_way}
use Rattle.traces.proofs.plays.laws.Computed as computed

module _ (l i bs es a : List ℕ) where
  -- not done: image, answers and events are as they were
  pub refused_untouched : ((playing l i bs es a).number ≡ 0 → ⊥) → Untouched i bs es (playing l i bs es a)
  unfolding playing
  refused_untouched n = untouched_way l (afresh i) i bs es a (play_test l i bs es) n

  -- 7: nor is the answer area
  pub seven_untouched : (playing l i bs es a).number ≡ 7 → (playing l i bs es a).answer ≡ a
  unfolding playing
  seven_untouched s = seven_way l (afresh i) i bs es a (play_test l i bs es) s

  -- done: the image after the last record, each record's answer and all drained events in front of what was lent, and how many records there are
  pub done_played : leb answer_length (length a) ≡ true → play_test l i bs es ≡ plays
      → playing l i bs es a ≡ play_leaves 0 (played l i).image (in_front (played l i).answers bs) (in_front (played l i).events es) (answered 0 (some (record_count l)) a)
  unfolding playing
  done_played e f = rw f (done_way l (afresh i) i bs es a e)

-- ---- after each record, in the bytes that a done call leaves

-- no refusal has the number 0
never_zero : (k : Known) (t : TraceTest) (b : Bool) → named_by (length_left k (trace_left t b)) ≡ 0 → ⊥
never_zero unknown t b e = omega (arith, e)
never_zero (known f) t b e = trace_named t b e

module _ (l i bs es a : List ℕ) (done : (playing l i bs es a).number ≡ 0) where
  abbrev bytes : PlayLeft
  bytes = playing l i bs es a

  pub not_zero : named_by (play_test l i bs es) ≡ 0 → ⊥
  unfolding play_test
  not_zero e = never_zero (form_of (length i)) (trace_test l) (play_room l bs es) e

  -- so a call that handed back 0 has played
  pub has_played : bytes ≡ play_leaves 0 (played l i).image (in_front (played l i).answers bs) (in_front (played l i).events es) (answered 0 (some (record_count l)) a)
  unfolding playing
  has_played = played_way l (afresh i) i bs es a (play_test l i bs es) not_zero done

  -- record k has its sixteen bytes among the answers: those of the call that it is, on the image that the records before it left
  pub answer_of_record : (k : ℕ) → k < record_count l → part (16 * k) 16 bytes.answers ≡ (played_on (played_to l k i).image (nth l k)).answer
  answer_of_record k h = record_way l (afresh i) i bs es a has_played k h

  -- the events of the first k records stand in front of the others
  pub events_of_first : (k : ℕ) → k ≤ record_count l → take (length (played_to l k i).events) bytes.events ≡ (played_to l k i).events
  events_of_first k h = events_way l (afresh i) i bs es a has_played k h

  -- and the events of record k right behind them: those that its own call drained
  pub events_of_record : (k : ℕ) → k < record_count l
      → let o = played_on (played_to l k i).image (nth l k) in
      part (length (played_to l k i).events) (length (drained_in o)) bytes.events ≡ drained_in o
  events_of_record k h = its_events_way l (afresh i) i bs es a has_played k h

  -- the image is that of all of them
  pub image_of_all : bytes.image ≡ (played_to l (record_count l) i).image
  image_of_all = ap (λ (p : PlayLeft). p.image) has_played

-- ---- one outcome

-- of two runs whose contract holds, the numbers handed back, images, answers, events and answer areas are the same
pub one_play : (l i bs es a : List ℕ) {r s : ℕ} {i₁ i₂ bs₁ bs₂ es₁ es₂ a₁ a₂ : List ℕ} → play_leaves r i₁ bs₁ es₁ a₁ ≡ playing l i bs es a → play_leaves s i₂ bs₂ es₂ a₂ ≡ playing l i bs es a
    → (r ≡ s) × (i₁ ≡ i₂) × (bs₁ ≡ bs₂) × (es₁ ≡ es₂) × (a₁ ≡ a₂)
one_play l i bs es a x y = one_played x y
