-- The rounds of a play: what holds when k records are played, before the first of them and after one more.
use Rattle.basics.proofs.Prelude.{◌≡◌, refl, sym, ap, subst, ◌∙◌, true, List, ℕ, suc, ◌+◌, ◌-◌, ◌*◌, ◌<◌, ◌≤◌, zero-le, zero-add, arith, length, length-append, put_mid, part, Bytes, length_part}
use Rattle.images.specs.{Form.Form, Form.form_of, Image.image_test}
use Rattle.calls.specs.Calls.{answer_length, Outcome}
use Rattle.fields.{specs.inplace.Passed.Passed, proofs.inplace.Passing.long}
use Rattle.traces.specs.Trace.{Record, record_length, record_at, nth, is_good}
use Rattle.traces.specs.Played.{drain_room, request_of, played_on, drained_in, records_from, Played, played_from}
use Rattle.traces.{specs.plays.Playing.behind, specs.plays.Playing.drains, specs.plays.Playing.drains_in, specs.plays.Playing.in_front, proofs.laws.Plays.played_none}
use Rattle.traces.proofs.{demands.Play.sixteen_bytes, demands.Play.answers_from, plays.laws.Prefixes.played_last, plays.laws.Rooms.drains_last, plays.laws.Rooms.drains_more}
use Rattle.traces.proofs.plays.laws.{InFront.front_length, InFront.front_next, InFront.front_rest, Keeps.keeps_accepted}
use Rattle.pch_pic_trace.specs.{record_step.Step.Playable, record_step.Step.Steps, play_records.Played.Ready, play_records.Played.PlayedTo}

-- k records are played, and `used` bytes of events are written
pub record Round (l : List ℕ) (n : ℕ) (f : Form) (i bs es : List ℕ) (k used : ℕ) (j cs fs : List ℕ) : Type 0 where
  pub upto : k ≤ n
  pub done : PlayedTo l k i bs es j cs fs
  pub written : used ≡ length (played_from l k 0 i).events
  pub room : used ≤ drain_room * drains_in (records_from l k 0)
  pub passed : Passed f j

module _ (l : List ℕ) (first n : ℕ) {f : Form} (i bs es : List ℕ) (y : Ready l first n f i bs es) where
  pub first_round : Round l n f i bs es 0 0 i bs es
  first_round =
      let z = sym (played_none l 0 i) in
      record {
        upto = zero-le;
        done = record { image = ap (λ (p : Played). p.image) z; answers = ap (λ (p : Played). in_front p.answers bs) z; events = ap (λ (p : Played). in_front p.events es) z };
        written = ap (λ (p : Played). length p.events) z;
        room = zero-le;
        passed = y.passed;
      }

  module _ {k used : ℕ} {j cs fs : List ℕ} (w : Round l n f i bs es k used j cs fs) where
    abbrev before : Played
    before = played_from l k 0 i

    -- what is lent keeps its length
    fewer : drains_in (records_from l k 0) ≤ drains_in (records_from l n 0)
    fewer =
        let z : k + (n - k) ≡ n = omega (arith, w.upto) in
        subst (λ (m : ℕ). drains_in (records_from l k 0) ≤ drains_in (records_from l m 0)) z (drains_more l k (n - k) 0)

    pub answers_long : length cs ≡ length bs
    answers_long = ap length w.done.answers ∙ front_length before.answers bs (omega (arith, answers_from l k 0 i, y.answers, w.upto))

    pub events_long : length fs ≡ length es
    events_long = ap length w.done.events ∙ front_length before.events es (omega (arith, w.written, w.room, fewer, y.events))

    pub image_long : length j ≡ length i
    image_long = long w.passed ∙ sym (long y.passed)

    pub within : used ≤ length es
    within = omega (arith, w.room, fewer, y.events)

    -- one record is left: it is good, and has room if it drains
    module _ (h : k < n) (r : Record) (e : r ≡ record_at (first + record_length * k) l) where
      its : r ≡ nth l k
      its = e ∙ ap (λ (a : ℕ). record_at (a + record_length * k) l) y.reaches.place

      pub is_good_lem : is_good r ≡ true
      is_good_lem = ap is_good its ∙ y.good k h

      more : drains_in (records_from l (k + 1) 0) ≡ drains_in (records_from l k 0) + drains r
      more =
          let z : k + 1 ≡ suc k = omega arith in
          ap (λ (m : ℕ). drains_in (records_from l m 0)) z ∙ drains_last l k 0
          ∙ (λ t. drains_in (records_from l k 0) + drains ((ap (nth l) (zero-add k) ∙ sym its) t))

      in_all : drains_in (records_from l (k + 1) 0) ≤ drains_in (records_from l n 0)
      in_all =
          let z : (k + 1) + (n - (k + 1)) ≡ n = omega arith in
          subst (λ (m : ℕ). drains_in (records_from l (k + 1) 0) ≤ drains_in (records_from l m 0)) z (drains_more l (k + 1) (n - (k + 1)) 0)

      pub has_room : used + drain_room * drains r ≤ length es
      has_room = omega (arith, w.room, more, in_all, y.events)

      -- so it can be played
      pub playable : {n₁ n₂ : ℕ} → n₁ ≡ answer_length → n₂ ≡ length fs - used → Playable f r j (part (answer_length * k) n₁ cs) (part used n₂ fs)
      playable {n₁} {n₂} e₁ e₂ = record {
        passed = w.passed;
        good = is_good_lem;
        answer = length_part cs (answer_length * k) n₁ (omega (arith, e₁, answers_long, y.answers)) ∙ e₁;
        room = subst (λ (m : ℕ). drain_room * drains r ≤ m) (sym (length_part fs used n₂ (omega (arith, e₂, events_long, within)))) (omega (arith, e₂, events_long, has_room));
      }

      abbrev its_outcome : Outcome
      its_outcome = played_on j r

      -- the play of one record more
      next : played_from l (k + 1) 0 i ≡ behind before its_outcome
      next =
          let z : k + 1 ≡ suc k = omega arith in
          ap (λ (m : ℕ). played_from l m 0 i) z ∙ played_last l k 0 i
          ∙ (λ t. behind before (played_on (sym w.done.image t) ((ap (nth l) (zero-add k) ∙ sym its) t)))

      module _ {n₁ n₂ m : ℕ} {j₂ b gs : List ℕ} (e₁ : n₁ ≡ answer_length) (e₂ : n₂ ≡ length fs - used) (s : Steps r j j₂ b (part used n₂ fs) gs m) where
        image_is : j₂ ≡ (played_from l (k + 1) 0 i).image
        image_is = s.image ∙ ap (λ (p : Played). p.image) (sym next)

        answers_are : put_mid (answer_length * k) n₁ cs b ≡ in_front (played_from l (k + 1) 0 i).answers bs
        answers_are =
            let at : answer_length * k ≡ length before.answers = sym (answers_from l k 0 i) in
            let size : n₁ ≡ length its_outcome.answer = e₁ ∙ sym (sixteen_bytes (request_of r) j) in
            (λ t. put_mid (at t) (size t) (w.done.answers t) (s.answer t)) ∙ front_next before.answers bs its_outcome.answer
            ∙ ap (λ (p : Played). in_front p.answers bs) (sym next)

        events_are : put_mid used n₂ fs gs ≡ in_front (played_from l (k + 1) 0 i).events es
        events_are =
            let xs = drained_in its_outcome in
            ap (put_mid used n₂ fs) s.events ∙ (λ t. put_mid (w.written t) n₂ (w.done.events t) (in_front xs (part (w.written t) n₂ (w.done.events t))))
            ∙ front_rest before.events es xs n₂ (e₂ ∙ (λ t. length (w.done.events t) - w.written t))
            ∙ ap (λ (p : Played). in_front p.events es) (sym next)

        kept : Passed f j₂
        kept =
            let p = w.passed in
            let q = keeps_accepted j p.bytes p.good r in
            record {
              bytes = subst Bytes (sym s.image) q.0;
              good = ap image_test s.image ∙ q.1;
              known = ap (λ x. form_of (length x)) s.image ∙ ap form_of q.2 ∙ p.known;
            }

        pub next_round : Round l n f i bs es (k + 1) (used + m) j₂ (put_mid (answer_length * k) n₁ cs b) (put_mid used n₂ fs gs)
        next_round = record {
          upto = omega arith;
          done = record { image = image_is; answers = answers_are; events = events_are };
          written = omega (arith, w.written, s.count, length-append before.events (drained_in its_outcome), ap (λ (p : Played). length p.events) next);
          room = omega (arith, w.room, s.room, more);
          passed = kept;
        }

-- the same by bytes: `at` is where the next answer goes, and how far the next record stands behind the first
pub record Turn (l : List ℕ) (n : ℕ) (f : Form) (i bs es : List ℕ) (at used : ℕ) (j cs fs : List ℕ) : Type 0 where
  pub k : ℕ
  pub place : at ≡ answer_length * k
  pub round : Round l n f i bs es k used j cs fs

module _ (l : List ℕ) (first n : ℕ) {f : Form} (i bs es : List ℕ) (y : Ready l first n f i bs es) where
  pub first_turn : Turn l n f i bs es 0 0 i bs es
  first_turn = record { k = 0; place = refl; round = first_round l first n i bs es y }

  module _ {at used : ℕ} {j cs fs : List ℕ} (w : Turn l n f i bs es at used j cs fs) (h : at < answer_length * n) (r : Record) (e : r ≡ record_at (first + at) l) where
    left : w.k < n
    left = omega (arith, w.place)

    there : r ≡ record_at (first + record_length * w.k) l
    there = e ∙ ap (λ (a : ℕ). record_at (first + a) l) w.place

    pub turn_playable : {n₁ n₂ : ℕ} → n₁ ≡ answer_length → n₂ ≡ length fs - used → Playable f r j (part at n₁ cs) (part used n₂ fs)
    turn_playable {n₁} {n₂} e₁ e₂ =
        subst (λ (a : ℕ). Playable f r j (part a n₁ cs) (part used n₂ fs)) (sym w.place) (playable l first n i bs es y w.round left r there e₁ e₂)

    pub next_turn : {n₁ n₂ m : ℕ} {j₂ b gs : List ℕ} → n₁ ≡ answer_length → n₂ ≡ length fs - used → Steps r j j₂ b (part used n₂ fs) gs m
        → Turn l n f i bs es (at + answer_length) (used + m) j₂ (put_mid at n₁ cs b) (put_mid used n₂ fs gs)
    next_turn {n₁} {n₂} {m} {j₂} {b} {gs} e₁ e₂ s = record {
      k = w.k + 1;
      place = omega (arith, w.place);
      round = subst (λ (a : ℕ). Round l n f i bs es (w.k + 1) (used + m) j₂ (put_mid a n₁ cs b) (put_mid used n₂ fs gs)) (sym w.place) (next_round l first n i bs es y w.round left r there e₁ e₂ s);
    }
