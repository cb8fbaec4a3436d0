-- `replay_call` is right since what the call left is what the rules give, and the rest of each area stays.
use Rattle.basics.proofs.Prelude.{◌≡◌, sym, ap, ◌∙◌, List, ◌++◌, ℕ, take, drop}
use Rattle.std.proofs.lemmas.Result.{on_ok_weaker}
use Rattle.calls.specs.Calls.{Outcome, leaves}
use Rattle.replay.specs.records.Records.{kind_of, lent_image, lent_answer, lent_events, answer_fill, event_fill, checksum_of, AsNoted}
use Rattle.replay.specs.{replay_call.Recorded.made, replay_call.Recorded.Makes, replay_call.Recorded.ruled, replay_call.Recorded.Recorded, declared.replay_call.Made.Made}
use Rattle.replay.proofs.replay_call.replay_call.Goals as goal

-- what the call left, held against the record, is what the rules give
as_ruled : (x : Made) (r i : List ℕ) (n m k : ℕ) (j a : List ℕ) → n ≡ lent_image r → m ≡ lent_answer r → k ≡ lent_events (kind_of r) r
    → Makes x r k (take n i) (take m answer_fill) j a → AsNoted r x.number (j ++ drop n i) (a ++ drop m answer_fill) x.events → Recorded r i (j ++ drop n i)
as_ruled x r i n m k j a en em ek p held =
    let q : leaves x.number j a p.written ≡ ruled r i = p.left ∙ (λ t. made r (take (en t) i) (take (em t) answer_fill) (take (ek t) event_fill)) in
    record {
      after = λ t. (q t).image ++ drop (en t) i;
      held = record {
        handed = sym (ap (λ (o : Outcome). o.number) q) ∙ held.handed;
        area = sym (λ t. (q t).answer ++ drop (em t) answer_fill) ∙ held.area;
        kept = held.kept;
        drained = λ z. sym (λ t. checksum_of 0 ((q t).events ++ drop (ek t) event_fill)) ∙ sym (ap (checksum_of 0) p.buffer) ∙ held.drained z;
      };
    }

pub returns : goal.returns
returns c = on_ok_weaker _ (as_ruled c.make-left.result c.args.noted.now c.args.image.now c.lent_image-n.result c.lent_answer-m.result c.lent_events-k.result _ _
    c.lent_image-n.ensures c.lent_answer-m.ensures c.lent_events-k.ensures c.make-left.ensures) c.compare.ensures
