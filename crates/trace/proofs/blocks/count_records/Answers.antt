-- `count_records`: a block that does not stand, and what all of them have together.
use Rattle.basics.proofs.Prelude.{arith}
use Rattle.trace.proofs.blocks.Standing.{looked_all, other_offset, no_record, too_many, looked_on}
use Rattle.trace.proofs.blocks.count_records.Goals as goal

pub returns-then-two_at-first : goal.returns-then-two_at-first
returns-then-two_at-first c =
    let l = c.loop-b in
    other_offset c.args.trace.now c.args.blocks l.records l.b l.invariant (omega arith) c.two_at.ensures.0 (λ z. omega (arith, z))

pub returns-then-count-eq0 : goal.returns-then-count-eq0
returns-then-count-eq0 c =
    let l = c.loop-b in
    no_record c.args.trace.now c.args.blocks l.records l.b l.invariant (omega arith) c.two_at-count.ensures.0 (omega (arith, c.two_at-count.ensures.1))

pub returns-then-records-gt-MOST_RECORDS : goal.returns-then-records-gt-MOST_RECORDS
returns-then-records-gt-MOST_RECORDS c =
    let l = c.loop-b in
    too_many c.args.trace.now c.args.blocks l.records l.b l.invariant (omega arith) c.two_at-count.ensures.0 (omega arith)

pub loop-b-preserved : goal.loop-b-preserved
loop-b-preserved c =
    let l = c.loop-b in
    looked_on c.args.trace.now c.args.blocks l.records l.b l.invariant (omega arith) c.two_at-count.ensures.0 c.two_at.ensures.0 (omega arith) (λ z. omega (arith, z)) (omega arith)

pub returns : goal.returns
returns c =
    let l = c.loop-b in
    looked_all c.args.trace.now c.args.blocks l.records l.b l.invariant (omega arith)
