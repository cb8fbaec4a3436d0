-- The ways that a play ends, whatever it tests of the image, and whatever image its first record is played on.
use Rattle.basics.proofs.Prelude.{◌≡◌, refl, sym, ap, ◌∙◌, Bool, true, false, cond, List, ℕ, ◌*◌, ◌<◌, ◌≤◌, arith, leb, length, take, length-take, eq-eqb, test, part}
use Rattle.rules.specs.Device.{Value, some}
use Rattle.calls.specs.Calls.{answer_length, answered}
use Rattle.traces.specs.{Trace.record_count, Trace.nth, Trace.TraceTest, Trace.good, Trace.wrong_contents, Trace.bad_record, Played.played_on, Played.drained_in, Played.played_through}
use Rattle.traces.specs.plays.InTurn.{SameIfDone}
use Rattle.traces.specs.plays.Playing.{played_on_to, PlayTest, refused, plays, trace_left, PlayLeft, play_leaves, play_ends, play_settled, play_told, in_front}
use Rattle.traces.proofs.{demands.Play.answers_from, plays.laws.InFront.part_front, plays.demands.AfterEachOn.its_answer_on, plays.demands.AfterEachOn.first_events_on, plays.demands.AfterEachOn.its_events_on}

-- not done: image, answers and events are as they were
pub record Untouched (i bs es : List ℕ) (left : PlayLeft) : Type 0 where
  pub image : left.image ≡ i
  pub answers : left.answers ≡ bs
  pub events : left.events ≡ es

untouched : (i bs es : List ℕ) {left : PlayLeft} {n : ℕ} {x : List ℕ} → left ≡ play_leaves n i bs es x → Untouched i bs es left
untouched i bs es e = record { image = ap (λ (p : PlayLeft). p.image) e; answers = ap (λ (p : PlayLeft). p.answers) e; events = ap (λ (p : PlayLeft). p.events) e }

-- of two runs that leave x, by the contract of either play, the numbers handed back, images, answers, events and answer areas are the same
pub one_played : {x : PlayLeft} {r s : ℕ} {i₁ i₂ bs₁ bs₂ es₁ es₂ a₁ a₂ : List ℕ} → play_leaves r i₁ bs₁ es₁ a₁ ≡ x → play_leaves s i₂ bs₂ es₂ a₂ ≡ x
    → (r ≡ s) × (i₁ ≡ i₂) × (bs₁ ≡ bs₂) × (es₁ ≡ es₂) × (a₁ ≡ a₂)
one_played p q =
    let same = p ∙ sym q in (
      ap (λ (o : PlayLeft). o.number) same,
      ap (λ (o : PlayLeft). o.image) same,
      ap (λ (o : PlayLeft). o.answers) same,
      ap (λ (o : PlayLeft). o.events) same,
      ap (λ (o : PlayLeft). o.answer) same,
    )

-- the number that a refused play hands back, and 1 for one that plays
abbrev pub named_by : PlayTest → ℕ
named_by (refused n v) = n
named_by plays = 1

-- what is wrong with a trace or the room is never 0
pub trace_named : (t : TraceTest) (b : Bool) → named_by (trace_left t b) ≡ 0 → ⊥
trace_named (good first n) true e = omega (arith, e)
trace_named (good first n) false e = omega (arith, e)
trace_named wrong_contents b e = omega (arith, e)
trace_named (bad_record k) b e = omega (arith, e)

-- a trace l, played from the image b on where it is played; lent are i, bs, es and a
module _ (l b i bs es a : List ℕ) where
  -- what is left, by the test
  abbrev pub left_if : PlayTest → PlayLeft
  left_if t = play_told (play_ends t l b i bs es) i bs es a

  pub by_room : (t : PlayTest) {r : Bool} → leb answer_length (length a) ≡ r → left_if t ≡ cond r (play_settled a (play_ends t l b i bs es)) (play_leaves 7 i bs es a)
  by_room t e = (λ s. cond (e s) (play_settled a (play_ends t l b i bs es)) (play_leaves 7 i bs es a))

  pub untouched_way : (t : PlayTest) → ((left_if t).number ≡ 0 → ⊥) → Untouched i bs es (left_if t)
  untouched_way (refused m v) n = test (leb answer_length (length a)) (λ e. untouched i bs es (by_room (refused m v) e)) (λ e. untouched i bs es (by_room (refused m v) e))
  untouched_way plays n = test (leb answer_length (length a)) (λ e. absurd (n (ap (λ (p : PlayLeft). p.number) (by_room plays e)))) (λ e. untouched i bs es (by_room plays e))

  -- 7: nor is the answer area
  pub seven_way : (t : PlayTest) → (left_if t).number ≡ 7 → (left_if t).answer ≡ a
  seven_way (refused m v) s =
      test (leb answer_length (length a))
      (λ e. let is : m ≡ 7 = sym (ap (λ (p : PlayLeft). p.number) (by_room (refused m v) e)) ∙ s in
      ap (λ (p : PlayLeft). p.answer) (by_room (refused m v) e) ∙ rw (eq-eqb m 7 is))
      (λ e. ap (λ (p : PlayLeft). p.answer) (by_room (refused m v) e))
  seven_way plays s =
      test (leb answer_length (length a)) (λ e. absurd (let z : 0 ≡ 7 = sym (ap (λ (p : PlayLeft). p.number) (by_room plays e)) ∙ s in omega arith))
      (λ e. ap (λ (p : PlayLeft). p.answer) (by_room plays e))

  -- done: the image after the last record, each record's answer and all drained events in front of what was lent, and how many records there are
  abbrev pub whole : PlayLeft
  whole = play_leaves 0 (played_through l b).image (in_front (played_through l b).answers bs) (in_front (played_through l b).events es) (answered 0 (some (record_count l)) a)

  pub done_way : leb answer_length (length a) ≡ true → left_if plays ≡ whole
  done_way e = by_room plays e

  -- refused with another number, it does not hand back 0
  pub refused_way : (m : ℕ) (v : Value) → (m ≡ 0 → ⊥) → (left_if (refused m v)).number ≡ 0 → ⊥
  refused_way m v n d =
      test (leb answer_length (length a)) (λ e. n (sym (ap (λ (p : PlayLeft). p.number) (by_room (refused m v) e)) ∙ d))
      (λ e. let z : 7 ≡ 0 = sym (ap (λ (p : PlayLeft). p.number) (by_room (refused m v) e)) ∙ d in omega arith)

  -- so a call that handed back 0 has played
  pub played_way : (t : PlayTest) → (named_by t ≡ 0 → ⊥) → (left_if t).number ≡ 0 → left_if t ≡ whole
  played_way (refused m v) n d = absurd (refused_way m v n d)
  played_way plays n d =
      test (leb answer_length (length a)) (λ e. by_room plays e) (λ e. absurd (let z : 7 ≡ 0 = sym (ap (λ (p : PlayLeft). p.number) (by_room plays e)) ∙ d in omega arith))

  -- ---- after each record, in the bytes that a done call leaves

  module _ {left : PlayLeft} (d : left ≡ whole) where
    -- record k has its sixteen bytes among the answers: those of the call that it is, on the image that the records before it left
    pub record_way : (k : ℕ) → k < record_count l → part (16 * k) 16 left.answers ≡ (played_on (played_on_to l k b).image (nth l k)).answer
    record_way k h =
        ap (λ (p : PlayLeft). part (16 * k) 16 p.answers) d ∙ part_front (played_through l b).answers bs (16 * k) 16 (omega (arith, h, answers_from l (record_count l) 0 b)) ∙ its_answer_on l b k h

    -- the events of the first k records stand in front of the others
    pub events_way : (k : ℕ) → k ≤ record_count l → take (length (played_on_to l k b).events) left.events ≡ (played_on_to l k b).events
    events_way k h =
        let xs = (played_on_to l k b).events in
        let all = (played_through l b).events in
        let few : length xs ≤ length all = rw (sym (first_events_on l b k h)) (simp length-take (omega arith)) in
        ap (λ (p : PlayLeft). take (length xs) p.events) d ∙ part_front all es 0 (length xs) (omega (arith, few)) ∙ first_events_on l b k h

    -- and those of record k right behind them
    pub its_events_way : (k : ℕ) → k < record_count l
        → let o = played_on (played_on_to l k b).image (nth l k) in
        part (length (played_on_to l k b).events) (length (drained_in o)) left.events ≡ drained_in o
    its_events_way k h =
        let o = played_on (played_on_to l k b).image (nth l k) in
        let r = its_events_on l b k h in
        let at = length (played_on_to l k b).events in
        ap (λ (p : PlayLeft). part at (length (drained_in o)) p.events) d ∙ part_front (played_through l b).events es at (length (drained_in o)) r.1 ∙ r.0

-- ---- of another image that is lent

-- where both are played from the same image on, what is lent for the image matters to no byte but the image's, and not there where they are done
both : {x y : PlayLeft} {n : ℕ} {i j bs es c : List ℕ} → x ≡ play_leaves n i bs es c → y ≡ play_leaves n j bs es c → (n ≡ 0 → i ≡ j) → SameIfDone x y
both p q h = record {
  number = ap (λ (z : PlayLeft). z.number) p ∙ sym (ap (λ (z : PlayLeft). z.number) q);
  answers = ap (λ (z : PlayLeft). z.answers) p ∙ sym (ap (λ (z : PlayLeft). z.answers) q);
  events = ap (λ (z : PlayLeft). z.events) p ∙ sym (ap (λ (z : PlayLeft). z.events) q);
  answer = ap (λ (z : PlayLeft). z.answer) p ∙ sym (ap (λ (z : PlayLeft). z.answer) q);
  image = λ d. ap (λ (z : PlayLeft). z.image) p ∙ h (sym (ap (λ (z : PlayLeft). z.number) p) ∙ d) ∙ sym (ap (λ (z : PlayLeft). z.image) q);
}

pub lent_way : (l b i j bs es a : List ℕ) (t : PlayTest) → (named_by t ≡ 0 → ⊥) → SameIfDone (left_if l b i bs es a t) (left_if l b j bs es a t)
lent_way l b i j bs es a (refused m v) n =
    test (leb answer_length (length a)) (λ e. both (by_room l b i bs es a (refused m v) e) (by_room l b j bs es a (refused m v) e) (λ z. absurd (n z)))
    (λ e. both (by_room l b i bs es a (refused m v) e) (by_room l b j bs es a (refused m v) e) (λ z. absurd (omega (arith, z))))
lent_way l b i j bs es a plays n =
    test (leb answer_length (length a)) (λ e. both (by_room l b i bs es a plays e) (by_room l b j bs es a plays e) (λ z. refl))
    (λ e. both (by_room l b i bs es a plays e) (by_room l b j bs es a plays e) (λ z. absurd (omega (arith, z))))
