-- `update_irq`: of the inputs that its mask expression holds the lowest moves, and its vector is handed back.
use Rattle.basics.proofs.Prelude.{rules}
use Rattle.port.proofs.irq_level.Service.{pending_some, pending_none, inactive_some, inactive_none}
use Rattle.port.proofs.irq_level.update_irq.Goals as goal

pub returns-then-pending-ne0 : goal.returns-then-pending-ne0
returns-then-pending-ne0 c =
    let t = c in
    let p = t in
    let s = p in
    rw p.if-level.true
    (pending_some s.args.lines s.args.mask _ p.pending-pending.ensures s.args.vectors.now (search rules) t.if-pending-ne0.true)

pub returns-then-inactive-ne0 : goal.returns-then-inactive-ne0
returns-then-inactive-ne0 c =
    let t = c in
    let s = t in
    rw t.if-level.false
    (inactive_some s.args.lines s.args.mask (search rules) s.args.vectors.now (search rules) (search rules) t.if-inactive-ne0.true)

pub returns-else-pending-ne0 : goal.returns-else-pending-ne0
returns-else-pending-ne0 c =
    let p = c in
    let s = p in
    rw p.if-level.true
    (pending_none s.args.lines s.args.mask _ p.pending-pending.ensures s.args.vectors.now (search rules) c.if-pending-ne0.false)

pub returns-else-inactive-ne0 : goal.returns-else-inactive-ne0
returns-else-inactive-ne0 c =
    let s = c in
    rw c.if-level.false
    (inactive_none s.args.lines s.args.mask (search rules) s.args.vectors.now (search rules) (search rules) c.if-inactive-ne0.false)
