-- `drain_request` is right since nothing may follow the letter.
use Rattle.basics.proofs.Prelude.{[]}
use Rattle.sessions.specs.Session.{drain_line}
use Rattle.session.proofs.request.{Fields.ends, Fields.goes_on, Fields.asked}
use Rattle.session.proofs.request.drain_request.Goals as goal

pub returns-then-line-gt1 : goal.returns-then-line-gt1
returns-then-line-gt1 c = let l = c.args.line.now in asked l [] drain_line (goes_on l 1 c.if-line-gt1.true)

pub returns : goal.returns
returns c = let l = c.args.line.now in asked l [] drain_line (ends l 1 c.if-line-gt1.false)
