-- What a good trace has, and whether there is room for it.
use Rattle.basics.proofs.Prelude.{◌≡◌, sym, ap, subst, ◌∙◌, Bool, true, false, ◌&&◌, and-false, List, ℕ, ◌*◌, ◌<◌, arith, leb, le-leb, lt-leb}
use Rattle.std.proofs.Common.{Err}
use Rattle.calls.specs.Calls.{answer_length}
use Rattle.traces.specs.Trace.{record_count, good, trace_test}
use Rattle.traces.specs.Played.{drain_room, records_from, records}
use Rattle.traces.specs.plays.Playing.{drains_in, trace_left, plays}
use Rattle.traces.proofs.{demands.Told.AllGood, demands.Told.Means, demands.Told.test_told, demands.Sizes.few_records, demands.Sizes.trace_length}
use Rattle.trace.specs.{declared.contents.Records.Records}
use Rattle.answer.specs.declared.refusals.Refusal.TheVariants.{NoRoom}
use Rattle.pch_pic_trace.specs.play_records.Played.{Reaches, Roomy, Fits}

module _ (l : List ℕ) {first n : ℕ} (e : trace_test l ≡ good first n) where
  pub all_good_lem : AllGood l first n
  all_good_lem = subst (Means l) e (test_told l)

  pub reaches : Reaches l first n
  reaches =
      let g = all_good_lem in
      record { place = g.place; few = omega (arith, g.count, few_records l g.contents); fits = omega (arith, g.place, g.count, trace_length l g.contents) }

  pub counted : n ≡ record_count l
  counted = all_good_lem.count

  pub drains_all : drains_in (records_from l n 0) ≡ drains_in (records l)
  drains_all = ap (λ (m : ℕ). drains_in (records_from l m 0)) counted

-- so many bytes for answers and events
module _ (l : List ℕ) (a b : ℕ) where
  abbrev enough : Bool
  enough = leb (answer_length * record_count l) a && leb (drain_room * drains_in (records l)) b

  module _ {first n : ℕ} (e : trace_test l ≡ good first n) where
    by_room : {r : Bool} → enough ≡ r → trace_left (good first n) r ≡ trace_left (trace_test l) enough
    by_room f = sym (λ t. trace_left (e t) (f t))

    pub no_answers : a < answer_length * n → Fits (Err NoRoom) l a b
    no_answers h =
        let t : leb (answer_length * record_count l) a ≡ false = lt-leb (answer_length * record_count l) a (omega (arith, h, counted l e)) in
        by_room (ap (λ (c : Bool). c && leb (drain_room * drains_in (records l)) b) t)

    pub no_events : b < drain_room * drains_in (records_from l n 0) → Fits (Err NoRoom) l a b
    no_events h =
        let t : leb (drain_room * drains_in (records l)) b ≡ false = lt-leb (drain_room * drains_in (records l)) b (omega (arith, h, drains_all l e)) in
        by_room (ap (λ (c : Bool). leb (answer_length * record_count l) a && c) t ∙ and-false (leb (answer_length * record_count l) a))

  pub fits : {r : Records} → Roomy r l a b → plays ≡ trace_left (trace_test l) enough
  fits r =
      let t : leb (answer_length * record_count l) a ≡ true = le-leb (answer_length * record_count l) a (omega (arith, r.answers, counted l r.good)) in
      let u : leb (drain_room * drains_in (records l)) b ≡ true = le-leb (drain_room * drains_in (records l)) b (omega (arith, r.events, drains_all l r.good)) in
      by_room r.good (λ s. t s && u s)
