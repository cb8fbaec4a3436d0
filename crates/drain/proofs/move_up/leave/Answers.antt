-- `leave`: some things move to the front, or none is left.
use Rattle.basics.proofs.Prelude.{arith}
use Rattle.drain.proofs.move_up.{Moving.some_leave, Moving.none_leave}
use Rattle.drain.proofs.move_up.leave.Goals as goal

pub returns-then-n-len : goal.returns-then-n-len
returns-then-n-len c =
    let moved = c in
    let kept = moved in
    let s = kept in
    some_leave s.args.dst.now _ kept.copy.new.dst s.args.len s.args.n s.requires.0 s.requires.1 s.requires.2 kept.copy.ensures moved.copy-then-n-len.ensures

pub returns-else-n-len : goal.returns-else-n-len
returns-else-n-len c =
    let z = c in
    let s = z in
    none_leave s.args.dst.now _ s.args.len s.args.n (omega arith) s.requires.1 s.requires.2 z.put_zeros.ensures
