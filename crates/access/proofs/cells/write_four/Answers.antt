-- `write_four`: at once where they are a run, and else one by one.
use Rattle.basics.proofs.Prelude.{arith, rules}
use Rattle.laws.proofs.laws.Maps.{at_bytes}
use Rattle.access.proofs.cells.{Entries.four_run, Entries.four_together, Entries.four_written}
use Rattle.access.proofs.cells.write_four.Goals as goal

pub write_run-requires : goal.write_run-requires
write_run-requires c = (search rules, four_run c.args.offset c.requires.1 c.if-offset-le60.true)

pub returns-then-offset-le60 : goal.returns-then-offset-le60
returns-then-offset-le60 c = let w = c in
    let s = w in
    four_together s.args.image.now s.args.offset s.args.val w.write_run.ensures

pub overflow_add-offset : goal.overflow_add-offset
overflow_add-offset c = omega (arith, at_bytes _ c.requires.1)

pub overflow_add-offset-2 : goal.overflow_add-offset-2
overflow_add-offset-2 c = omega (arith, at_bytes _ c.requires.1)

pub overflow_add-offset-3 : goal.overflow_add-offset-3
overflow_add-offset-3 c = omega (arith, at_bytes _ c.requires.1)

pub returns : goal.returns
returns c = let s = c in
    let r = s in
    let q = r in
    let p = q in
    let a = p.args in
    four_written a.offset a.val p.byte_of.ensures q.byte_of-2.ensures r.byte_of-3.ensures s.byte_of-4.ensures p.write_entry.ensures q.write_entry-2.ensures r.write_entry-3.ensures s.write_entry-4.ensures
