-- `roomy`: of a good trace, whether there is room.
use Rattle.basics.proofs.Prelude.{sym, arith}
use Rattle.pch_pic_trace.proofs.play_records.{Counting.few_counted, Good.reaches, Good.no_answers, Good.no_events}
use Rattle.pch_pic_trace.proofs.play_records.roomy.Goals as goal

pub overflow_mul-records : goal.overflow_mul-records
overflow_mul-records c = omega (arith, (reaches c.args.trace.now (sym c.in_ok-records.ensures)).few)

pub returns-then-answers-records : goal.returns-then-answers-records
returns-then-answers-records c = no_answers c.args.trace.now c.args.answers c.args.events (sym c.in_ok-records.ensures) c.if-answers-records.true

pub count_drains-drains-requires : goal.count_drains-drains-requires
count_drains-drains-requires c = reaches c.args.trace.now (sym c.in_ok-records.ensures)

pub overflow_mul-drains : goal.overflow_mul-drains
overflow_mul-drains c =
    let r = c.in_ok-records.records in
    omega (arith, c.count_drains-drains.ensures, few_counted c.args.trace.now r.count 0, (reaches c.args.trace.now (sym c.in_ok-records.ensures)).few)

pub returns-then-events-drains : goal.returns-then-events-drains
returns-then-events-drains c =
    no_events c.args.trace.now c.args.answers c.args.events (sym c.in_ok-records.ensures) (rw c.count_drains-drains.ensures at c.if-events-drains.true)
