-- After each record of a play on an image: a play of the first records is the beginning of the whole, and the next record is the exported call made on what they left.
use Rattle.basics.proofs.Prelude.{◌≡◌, refl, sym, ap, ◌∙◌, List, [], ◌++◌, append-nil, append_assoc, ℕ, zero, suc, ◌+◌, ◌-◌, ◌*◌, ◌<◌, ◌≤◌, zero-add, arith, length, take, length-append, take_at, drop_at, part}
use Rattle.traces.specs.{Trace.record_count, Trace.nth, Played.request_of, Played.played_on, Played.drained_in, Played.Played, Played.played_through}
use Rattle.traces.specs.plays.Playing.{played_on_to, behind}
use Rattle.traces.proofs.{laws.Plays.played_none, demands.Play.sixteen_bytes, demands.Play.answers_from, plays.laws.Prefixes.played_last}

-- what more records add to a play: answers and events behind those that are there
record Adds (p q : Played) : Type 0 where
  answers : List ℕ
  events : List ℕ
  all_answers : q.answers ≡ p.answers ++ answers
  all_events : q.events ≡ p.events ++ events

module _ (l i : List ℕ) where
  -- none played: the image is as it was, and nothing is answered
  pub none_played_on : played_on_to l 0 i ≡ record { image = i; answers = []; events = [] }
  none_played_on = played_none l 0 i

  -- one more: its outcome is that of the call which it is, on the image that those before it left
  pub one_more_on : (k : ℕ) → played_on_to l (suc k) i ≡ behind (played_on_to l k i) (played_on (played_on_to l k i).image (nth l k))
  one_more_on k = played_last l k 0 i ∙ ap (λ (m : ℕ). behind (played_on_to l k i) (played_on (played_on_to l k i).image (nth l m))) (zero-add k)

  -- all of them: the play
  pub all_played_on : played_on_to l (record_count l) i ≡ played_through l i
  all_played_on = refl

  adds : (k m : ℕ) → Adds (played_on_to l k i) (played_on_to l (k + m) i)
  adds k zero =
      let z : k + 0 ≡ k = omega arith in
      record {
        answers = [];
        events = [];
        all_answers = ap (λ (n : ℕ). (played_on_to l n i).answers) z ∙ sym (append-nil (played_on_to l k i).answers);
        all_events = ap (λ (n : ℕ). (played_on_to l n i).events) z ∙ sym (append-nil (played_on_to l k i).events);
      }
  adds k (suc m) =
      let z : k + suc m ≡ suc (k + m) = omega arith in
      let a = adds k m in
      let o = played_on (played_on_to l (k + m) i).image (nth l (k + m)) in
      let e = ap (λ (n : ℕ). played_on_to l n i) z ∙ one_more_on (k + m) in
      record {
        answers = a.answers ++ o.answer;
        events = a.events ++ drained_in o;
        all_answers = ap (λ (p : Played). p.answers) e ∙ ap (λ xs. xs ++ o.answer) a.all_answers ∙ append_assoc (played_on_to l k i).answers a.answers o.answer;
        all_events = ap (λ (p : Played). p.events) e ∙ ap (λ xs. xs ++ drained_in o) a.all_events ∙ append_assoc (played_on_to l k i).events a.events (drained_in o);
      }

  -- so the answers and the events of the first k records are the beginning of all of them
  module _ (k : ℕ) (h : k ≤ record_count l) where
    more : Adds (played_on_to l k i) (played_through l i)
    more = let z : k + (record_count l - k) ≡ record_count l = omega (arith, h) in rw z at (adds k (record_count l - k))

    pub first_answers_on : take (16 * k) (played_through l i).answers ≡ (played_on_to l k i).answers
    first_answers_on = ap (take (16 * k)) more.all_answers ∙ take_at (played_on_to l k i).answers more.answers (16 * k) (answers_from l k 0 i)

    pub first_events_on : take (length (played_on_to l k i).events) (played_through l i).events ≡ (played_on_to l k i).events
    first_events_on = ap (take (length (played_on_to l k i).events)) more.all_events ∙ take_at (played_on_to l k i).events more.events (length (played_on_to l k i).events) refl

  -- and record k has its sixteen bytes from byte 16 k on: those of its own call
  pub its_answer_on : (k : ℕ) → k < record_count l → part (16 * k) 16 (played_through l i).answers ≡ (played_on (played_on_to l k i).image (nth l k)).answer
  its_answer_on k h =
      let o = played_on (played_on_to l k i).image (nth l k) in
      let p = (played_on_to l k i).answers in
      let m = more (suc k) h in
      let e : (played_through l i).answers ≡ p ++ (o.answer ++ m.answers) =
      m.all_answers ∙ ap (λ (q : Played). q.answers ++ m.answers) (one_more_on k) ∙ append_assoc p o.answer m.answers in
      ap (part (16 * k) 16) e ∙ ap (take 16) (drop_at p (o.answer ++ m.answers) (16 * k) (answers_from l k 0 i))
      ∙ take_at o.answer m.answers 16 (sixteen_bytes (request_of (nth l k)) (played_on_to l k i).image)

  -- its events stand right behind those of the records before it: those that its own call drained
  pub its_events_on : (k : ℕ) → k < record_count l
      → let o = played_on (played_on_to l k i).image (nth l k) in
      let at = length (played_on_to l k i).events in
      (part at (length (drained_in o)) (played_through l i).events ≡ drained_in o) × (at + length (drained_in o) ≤ length (played_through l i).events)
  its_events_on k h =
      let o = played_on (played_on_to l k i).image (nth l k) in
      let p = (played_on_to l k i).events in
      let m = more (suc k) h in
      let e : (played_through l i).events ≡ p ++ (drained_in o ++ m.events) =
      m.all_events ∙ ap (λ (q : Played). q.events ++ m.events) (one_more_on k) ∙ append_assoc p (drained_in o) m.events in (
        ap (part (length p) (length (drained_in o))) e ∙ ap (take (length (drained_in o))) (drop_at p (drained_in o ++ m.events) (length p) refl) ∙ take_at (drained_in o) m.events (length (drained_in o)) refl,
        omega (arith, ap length e, length-append p (drained_in o ++ m.events), length-append (drained_in o) m.events),
      )
