-- `pch_pic_drain`: 7 where the place is past the end, 4 and 5 by the length and the contents; none where nothing waits, at once the only one that does, and else the events from the place on.
use Rattle.basics.proofs.Prelude.{refl, sym, arith, rules}
use Rattle.calls.proofs.laws.Outcomes.{place_past}
use Rattle.pch_pic.proofs.Fronts.{seen, nothing_drained, no_length, no_contents}
use Rattle.calls.specs.Calls as asked
use Rattle.pch_pic.proofs.pch_pic_drain.Goals as goal

pub returns-then-events-place : goal.returns-then-events-place
returns-then-events-place c = let a = c.args in sym (place_past (asked.drain a.events.now a.place) a.image.now a.answer.now c.if-events-place.true)

pub returns-in_default : goal.returns-in_default
returns-in_default c = let a = c.args in no_length (asked.drain a.events.now a.place) a.image.now a.answer.now c.if-answer-lt16.false c.if-events-place.false refl c.form_of.ensures c.in_default.is c.tell.ensures

pub returns-then-nothing_waits : goal.returns-then-nothing_waits
returns-then-nothing_waits c = let a = c.args in
    nothing_drained (seen a.image.now c.form_of.ensures c.in-Some.is c.in-One-by_form.is (search rules) c.nothing_waits.ensures c.if-nothing_waits.true) a.answer.now c.if-answer-lt16.false
    a.events.now a.place c.if-events-place.false (c.nothing_waits.ensures c.if-nothing_waits.true).2 c.tell-then-nothing_waits.ensures

pub drain_one-requires : goal.drain_one-requires
drain_one-requires c = let w = c.one_fits.ensures in let z = c.if-one_fits.true in
    (seen c.args.image.now c.form_of.ensures c.in-Some.is c.in-One-by_form.is (search rules) w.0 z, (w.0 z).2, c.if-answer-lt16.false, omega (arith, c.if-events-place.false, w.1 z))

pub returns-else-contents_apart-eq0 : goal.returns-else-contents_apart-eq0
returns-else-contents_apart-eq0 c = let a = c.args in
    no_contents (asked.drain a.events.now a.place) a.image.now a.answer.now c.if-answer-lt16.false c.if-events-place.false refl c.form_of.ensures c.in-Some.is c.in-One-by_form.is c.contents_apart.ensures (λ z. omega arith) c.tell-2.ensures

pub returns-then-nothing_waits-2 : goal.returns-then-nothing_waits-2
returns-then-nothing_waits-2 c = let a = c.args in
    nothing_drained (seen a.image.now c.form_of.ensures c.in-Some.is c.in-Two-by_form.is (search rules) c.nothing_waits-2.ensures c.if-nothing_waits-2.true) a.answer.now c.if-answer-lt16.false
    a.events.now a.place c.if-events-place.false (c.nothing_waits-2.ensures c.if-nothing_waits-2.true).2 c.tell-then-nothing_waits-2.ensures

pub drain_one-requires-then-one_fits-2 : goal.drain_one-requires-then-one_fits-2
drain_one-requires-then-one_fits-2 c = let w = c.one_fits-2.ensures in let z = c.if-one_fits-2.true in
    (seen c.args.image.now c.form_of.ensures c.in-Some.is c.in-Two-by_form.is (search rules) w.0 z, (w.0 z).2, c.if-answer-lt16.false, omega (arith, c.if-events-place.false, w.1 z))

pub returns-else-contents_apart-eq0-2 : goal.returns-else-contents_apart-eq0-2
returns-else-contents_apart-eq0-2 c = let a = c.args in
    no_contents (asked.drain a.events.now a.place) a.image.now a.answer.now c.if-answer-lt16.false c.if-events-place.false refl c.form_of.ensures c.in-Some.is c.in-Two-by_form.is c.contents_apart-2.ensures (λ z. omega arith) c.tell-3.ensures

pub returns-then-nothing_waits-3 : goal.returns-then-nothing_waits-3
returns-then-nothing_waits-3 c = let a = c.args in
    nothing_drained (seen a.image.now c.form_of.ensures c.in-Some.is c.in-Numbered-by_form.is (search rules) c.nothing_waits-3.ensures c.if-nothing_waits-3.true) a.answer.now c.if-answer-lt16.false
    a.events.now a.place c.if-events-place.false (c.nothing_waits-3.ensures c.if-nothing_waits-3.true).2 c.tell-then-nothing_waits-3.ensures

pub drain_one-requires-then-one_fits-3 : goal.drain_one-requires-then-one_fits-3
drain_one-requires-then-one_fits-3 c = let w = c.one_fits-3.ensures in let z = c.if-one_fits-3.true in
    (seen c.args.image.now c.form_of.ensures c.in-Some.is c.in-Numbered-by_form.is (search rules) w.0 z, (w.0 z).2, c.if-answer-lt16.false, omega (arith, c.if-events-place.false, w.1 z))

pub returns-else-contents_apart-eq0-3 : goal.returns-else-contents_apart-eq0-3
returns-else-contents_apart-eq0-3 c = let a = c.args in
    no_contents (asked.drain a.events.now a.place) a.image.now a.answer.now c.if-answer-lt16.false c.if-events-place.false refl c.form_of.ensures c.in-Some.is c.in-Numbered-by_form.is c.contents_apart-3.ensures (λ z. omega arith) c.tell-4.ensures
