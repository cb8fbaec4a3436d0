-- `call`: each kind is its call.
use Rattle.basics.proofs.Prelude.{sym, ap, ◌∙◌, arith}
use Rattle.calls.specs.Calls.{ending}
use Rattle.trace.specs.record_bytes.Shown.{record_view}
use Rattle.pch_pic_trace.proofs.record_call.{Requests.raises, Requests.lowers, Requests.polls, Requests.reads, Requests.writes}
use Rattle.pch_pic_trace.proofs.record_call.call.Goals as goal

pub returns-in-1 : goal.returns-in-1
returns-in-1 c = let a = c.args in
    c.level.ensures ∙ ap (λ q. ending q a.image.now) (sym (raises (record_view a.r) c.in-1.is))

pub returns-in-2 : goal.returns-in-2
returns-in-2 c = let a = c.args in
    c.level-in-2.ensures ∙ ap (λ q. ending q a.image.now) (sym (lowers (record_view a.r) c.in-2.is))

pub returns-in-3 : goal.returns-in-3
returns-in-3 c = let a = c.args in
    c.poll.ensures ∙ ap (λ q. ending q a.image.now) (sym (polls (record_view a.r) c.in-3.is))

pub returns-in-4 : goal.returns-in-4
returns-in-4 c = let a = c.args in
    c.read.ensures ∙ ap (λ q. ending q a.image.now) (sym (reads (record_view a.r) c.in-4.is))

pub returns-in_default : goal.returns-in_default
returns-in_default c = c.write.ensures ∙ ap (λ q. ending q c.args.image.now) (sym (writes (record_view c.args.r) (omega arith)))
