-- `is_good`: what is not zero says which kinds are left.
use Rattle.basics.proofs.Prelude.{eq-eqb, ne_eqb}
use Rattle.trace.specs.record_bytes.Shown.{record_view}
use Rattle.trace.proofs.good_record.{Uses.zeros_set, Uses.value_set, Uses.offset_set, Uses.byte_set, Uses.none_set}
use Rattle.trace.proofs.good_record.is_good.Goals as goal

pub returns-then-r-ne0 : goal.returns-then-r-ne0
returns-then-r-ne0 c = let r = c.args.r in zeros_set (record_view r) (ne_eqb r.zeros 0 c.if-r-ne0.true)

pub returns-then-r-ne0-2 : goal.returns-then-r-ne0-2
returns-then-r-ne0-2 c = let r = c.args.r in value_set (record_view r) (eq-eqb r.zeros 0 c.if-r-ne0.false) (ne_eqb r.value 0 c.if-r-ne0-2.true)

pub returns-then-r-ne0-3 : goal.returns-then-r-ne0-3
returns-then-r-ne0-3 c =
    let r = c.args.r in
    offset_set (record_view r) (eq-eqb r.zeros 0 c.if-r-ne0.false) (eq-eqb r.value 0 c.if-r-ne0-2.false) (ne_eqb r.offset 0 c.if-r-ne0-3.true)

pub returns-then-r-ne0-4 : goal.returns-then-r-ne0-4
returns-then-r-ne0-4 c =
    let r = c.args.r in
    byte_set (record_view r) (eq-eqb r.zeros 0 c.if-r-ne0.false) (eq-eqb r.value 0 c.if-r-ne0-2.false) (eq-eqb r.offset 0 c.if-r-ne0-3.false) (ne_eqb r.byte 0 c.if-r-ne0-4.true)

pub returns : goal.returns
returns c =
    let r = c.args.r in
    none_set (record_view r) (eq-eqb r.zeros 0 c.if-r-ne0.false) (eq-eqb r.value 0 c.if-r-ne0-2.false) (eq-eqb r.offset 0 c.if-r-ne0-3.false) (eq-eqb r.byte 0 c.if-r-ne0-4.false)
