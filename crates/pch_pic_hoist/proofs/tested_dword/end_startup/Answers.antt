-- `end_startup`: the image is refused where 01's order puts it; accepted, start-up cannot end, or it does.
use Rattle.pch_pic_hoist.proofs.tested_dword.Tested.{end_judged}
use Rattle.pch_pic_hoist.proofs.tested_dword.end_startup.Goals as goal

pub returns-then-cannot_end : goal.returns-then-cannot_end
returns-then-cannot_end c = end_judged c.in_ok-form.ensures c.args.running c.cannot_end.ensures c.if-cannot_end.true

pub returns : goal.returns
returns c = end_judged c.in_ok-form.ensures c.args.running c.cannot_end.ensures c.if-cannot_end.false
