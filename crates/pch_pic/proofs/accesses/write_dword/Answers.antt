-- `write_dword`: 4 and 5 by the length and the contents; else the call is made, at once where the quick test is passed.
use Rattle.basics.proofs.Prelude.{refl, arith, rules}
use Prim.Native.Nat.{zero-le}
use Rattle.pch_pic.proofs.Fronts.{at_once, no_length, no_contents}
use Rattle.calls.specs.Calls as asked
use Rattle.pch_pic.proofs.accesses.write_dword.Goals as goal

pub returns-in_default : goal.returns-in_default
returns-in_default c = let a = c.args in no_length (asked.write a.base a.size a.address 4 a.value) a.image.now a.answer.now c.requires zero-le refl c.form_of.ensures c.in_default.is c.tell.ensures

pub write_at_once-requires : goal.write_at_once-requires
write_at_once-requires c = (at_once c.args.image.now c.form_of.ensures c.in-Some.is c.in-One-by_form.is (search rules) c.odd.ensures (omega arith), c.requires)

pub returns-else-contents_apart-eq0 : goal.returns-else-contents_apart-eq0
returns-else-contents_apart-eq0 c = let a = c.args in
    no_contents (asked.write a.base a.size a.address 4 a.value) a.image.now a.answer.now c.requires zero-le refl c.form_of.ensures c.in-Some.is c.in-One-by_form.is c.contents_apart.ensures (λ z. omega arith) c.tell-2.ensures

pub write_at_once-requires-then-odd-eq0-2 : goal.write_at_once-requires-then-odd-eq0-2
write_at_once-requires-then-odd-eq0-2 c = (at_once c.args.image.now c.form_of.ensures c.in-Some.is c.in-Two-by_form.is (search rules) c.odd-2.ensures (omega arith), c.requires)

pub returns-else-contents_apart-eq0-2 : goal.returns-else-contents_apart-eq0-2
returns-else-contents_apart-eq0-2 c = let a = c.args in
    no_contents (asked.write a.base a.size a.address 4 a.value) a.image.now a.answer.now c.requires zero-le refl c.form_of.ensures c.in-Some.is c.in-Two-by_form.is c.contents_apart-2.ensures (λ z. omega arith) c.tell-3.ensures

pub write_at_once-requires-then-odd-eq0-3 : goal.write_at_once-requires-then-odd-eq0-3
write_at_once-requires-then-odd-eq0-3 c = (at_once c.args.image.now c.form_of.ensures c.in-Some.is c.in-Numbered-by_form.is (search rules) c.odd-3.ensures (omega arith), c.requires)

pub returns-else-contents_apart-eq0-3 : goal.returns-else-contents_apart-eq0-3
returns-else-contents_apart-eq0-3 c = let a = c.args in
    no_contents (asked.write a.base a.size a.address 4 a.value) a.image.now a.answer.now c.requires zero-le refl c.form_of.ensures c.in-Some.is c.in-Numbered-by_form.is c.contents_apart-3.ensures (λ z. omega arith) c.tell-4.ensures
