-- `end` is right since the end's line has 14 bytes, so that there is room for the ending behind it.
use Rattle.basics.proofs.Prelude.{arith}
use Rattle.sessions.specs.Session.{newline, answers}
use Rattle.session.proofs.{reply.Writing.put_byte, reply.Writing.filled, reply.Writing.says}
use Rattle.session.proofs.line_end.end.Goals as goal

pub returns : goal.returns
returns c = unfold answers in let l = c.finish-len.ensures.len in
    (says (put_byte (filled c.finish-len.ensures) newline (omega arith)), omega arith)
