-- `step`: each kind is its call.
use Rattle.basics.proofs.Prelude.{true, false, refl, arith}
use Rattle.rules.specs.Core as core
use Rattle.rules.specs.Device as device
use Rattle.rules.specs.Device.{acts_of}
use Rattle.sheets.specs.Day.{item_of}
use Rattle.trace.specs.record_bytes.Shown.{record_view}
use Rattle.ledger.specs.watch.Kept.{lines_of}
use Rattle.ledger.proofs.watch_record.Items.{item_as, input_done, input_refused, read_follows, follows_drain, kind_raise, kind_lower, kind_poll, kind_read, kind_write, kind_drain}
use Rattle.ledger.proofs.watch_record.step.Goals as goal

pub returns-in-1 : goal.returns-in-1
returns-in-1 c = unfold acts_of in
    let r = record_view c.args.r in
    item_as c.args.k _ (item_of r) (kind_raise r c.in-1.is) (input_done c.args.k r.byte (device.level r.byte true) (core.raise r.byte) c.if-byte-lt-INPUTS.true refl (λ z. refl) c.raise.ensures)

pub returns-in-2 : goal.returns-in-2
returns-in-2 c = unfold acts_of in
    let r = record_view c.args.r in
    item_as c.args.k _ (item_of r) (kind_lower r c.in-2.is) (input_done c.args.k r.byte (device.level r.byte false) (core.lower r.byte) c.if-byte-lt-INPUTS-2.true refl (λ z. refl) c.lower.ensures)

pub returns-in-3 : goal.returns-in-3
returns-in-3 c = unfold acts_of in
    let r = record_view c.args.r in
    item_as c.args.k _ (item_of r) (kind_poll r c.in-3.is) (input_done c.args.k r.byte (device.poll r.byte) (core.poll r.byte) c.if-byte-lt-INPUTS-3.true refl (λ z. refl) c.poll.ensures)

pub returns-in-1-2 : goal.returns-in-1-2
returns-in-1-2 c =
    let a = c.args in
    let r = record_view a.r in
    item_as a.k _ (item_of r) (kind_raise r c.in-1.is) (input_refused (lines_of a.w) a.w.waiting a.sheet.now a.k r.byte (device.level r.byte true) c.if-byte-lt-INPUTS.false)

pub returns-in-1-2-2 : goal.returns-in-1-2-2
returns-in-1-2-2 c =
    let a = c.args in
    let r = record_view a.r in
    item_as a.k _ (item_of r) (kind_lower r c.in-2.is) (input_refused (lines_of a.w) a.w.waiting a.sheet.now a.k r.byte (device.level r.byte false) c.if-byte-lt-INPUTS-2.false)

pub returns-in-1-2-3 : goal.returns-in-1-2-3
returns-in-1-2-3 c =
    let a = c.args in
    let r = record_view a.r in
    item_as a.k _ (item_of r) (kind_poll r c.in-3.is) (input_refused (lines_of a.w) a.w.waiting a.sheet.now a.k r.byte (device.poll r.byte) c.if-byte-lt-INPUTS-3.false)

pub returns-in-1-2-4 : goal.returns-in-1-2-4
returns-in-1-2-4 c =
    let a = c.args in
    let r = record_view a.r in
    item_as a.k _ (item_of r) (kind_read r c.in-1-2.is) (read_follows (lines_of a.w) a.w.waiting a.sheet.now a.k 0 65536 r.offset r.byte)

pub returns-in-5 : goal.returns-in-5
returns-in-5 c =
    let r = record_view c.args.r in
    item_as c.args.k _ (item_of r) (kind_write r c.in-5.is) c.write.ensures

pub returns-in_default : goal.returns-in_default
returns-in_default c =
    let a = c.args in
    let r = record_view a.r in
    item_as a.k _ (item_of r) (kind_drain r (λ e. omega arith) (λ e. omega arith) (λ e. omega arith) (λ e. omega arith) (λ e. omega arith)) (follows_drain (lines_of a.w) a.w.waiting a.sheet.now a.k)
