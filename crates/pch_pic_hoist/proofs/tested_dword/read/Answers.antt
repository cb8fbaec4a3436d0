-- `read`: the image is refused where 01's order puts it; accepted, the call goes on.
use Rattle.basics.proofs.Prelude.{refl, false}
use Rattle.pch_pic_hoist.proofs.tested_dword.Tested.{by_image}
use Rattle.calls.specs.Calls as asked
use Rattle.pch_pic_hoist.proofs.tested_dword.read.Goals as goal

pub returns-in_err-form : goal.returns-in_err-form
returns-in_err-form c = let a = c.args in by_image a.image.now c.from_residual.result c.from_residual.ensures.1 c.in_err-form.ensures false (asked.read a.base a.size a.address a.width) refl
