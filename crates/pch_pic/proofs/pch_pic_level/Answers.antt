-- `pch_pic_level`: 4 and 5 by the length and the contents; else the call is made, at once where the quick test is passed.
use Rattle.basics.proofs.Prelude.{refl, arith, rules}
use Prim.Native.Nat.{zero-le}
use Rattle.pch_pic.proofs.Fronts.{at_once, no_length, no_contents}
use Rattle.calls.specs.Calls as asked
use Rattle.pch_pic.proofs.pch_pic_level.Goals as goal

pub returns-in_default : goal.returns-in_default
returns-in_default c = let a = c.args in no_length (asked.level a.input a.level) a.image.now a.answer.now c.if-answer-lt16.false zero-le refl c.form_of.ensures c.in_default.is c.tell.ensures

pub level_on-requires : goal.level_on-requires
level_on-requires c = (at_once c.args.image.now c.form_of.ensures c.in-Some.is c.in-One-by_form.is (search rules) c.odd.ensures (omega arith), c.if-answer-lt16.false)

pub returns-else-contents_apart-eq0 : goal.returns-else-contents_apart-eq0
returns-else-contents_apart-eq0 c = let a = c.args in
    no_contents (asked.level a.input a.level) a.image.now a.answer.now c.if-answer-lt16.false zero-le refl c.form_of.ensures c.in-Some.is c.in-One-by_form.is c.contents_apart.ensures (λ z. omega arith) c.tell-2.ensures

pub level_on-requires-then-odd-eq0-2 : goal.level_on-requires-then-odd-eq0-2
level_on-requires-then-odd-eq0-2 c = (at_once c.args.image.now c.form_of.ensures c.in-Some.is c.in-Two-by_form.is (search rules) c.odd-2.ensures (omega arith), c.if-answer-lt16.false)

pub returns-else-contents_apart-eq0-2 : goal.returns-else-contents_apart-eq0-2
returns-else-contents_apart-eq0-2 c = let a = c.args in
    no_contents (asked.level a.input a.level) a.image.now a.answer.now c.if-answer-lt16.false zero-le refl c.form_of.ensures c.in-Some.is c.in-Two-by_form.is c.contents_apart-2.ensures (λ z. omega arith) c.tell-3.ensures

pub level_on-requires-then-odd-eq0-3 : goal.level_on-requires-then-odd-eq0-3
level_on-requires-then-odd-eq0-3 c = (at_once c.args.image.now c.form_of.ensures c.in-Some.is c.in-Numbered-by_form.is (search rules) c.odd-3.ensures (omega arith), c.if-answer-lt16.false)

pub returns-else-contents_apart-eq0-3 : goal.returns-else-contents_apart-eq0-3
returns-else-contents_apart-eq0-3 c = let a = c.args in
    no_contents (asked.level a.input a.level) a.image.now a.answer.now c.if-answer-lt16.false zero-le refl c.form_of.ensures c.in-Some.is c.in-Numbered-by_form.is c.contents_apart-3.ensures (λ z. omega arith) c.tell-4.ensures
