-- `write`: a call that is refused does nothing; one that is done, what the write does.
use Rattle.basics.proofs.Prelude.{sym}
use Rattle.ledger.specs.watch.Kept.{lines_of}
use Rattle.ledger.proofs.watch_record.Items.{no_width_lem, no_place, write_done, width_none, width_some, known_width, at_width}
use Rattle.ledger.proofs.watch_record.write.Goals as goal

pub returns-then-is_none : goal.returns-then-is_none
returns-then-is_none c =
    let a = c.args in
    no_width_lem 0 65536 a.address a.width a.value (lines_of a.w) a.w.waiting a.sheet.now a.k (width_none a.width c.width_of.result c.if-is_none.ensures c.width_of.ensures)

pub returns-in_default : goal.returns-in_default
returns-in_default c =
    let a = c.args in
    let k = width_some a.width c.width_of.result c.if-is_none.ensures c.width_of.ensures in
    no_place 0 65536 a.address a.width a.value k.1 (lines_of a.w) a.w.waiting a.sheet.now a.k c.in_default.ensures.0

pub returns : goal.returns
returns c =
    let a = c.args in
    let k = width_some a.width c.width_of.result c.if-is_none.ensures c.width_of.ensures in
    write_done 0 65536 a.address a.width a.value k.1 c.in-Some.ensures.0 a.k (at_width (known_width a.width k.0 (sym k.1)).1 _ a.value a.k c.write.ensures)
