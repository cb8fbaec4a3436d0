-- `survey`: the blocks looked at so far have their first bad records in the array.
use Rattle.basics.proofs.Prelude.{◌≡◌, length}
use Rattle.pch_pic_salvage.specs.torn.Found.{BadIn}
use Rattle.pch_pic_salvage.proofs.torn.survey.Given as goal

abbrev pub invariant-loop-b : goal.invariant-loop-b
invariant-loop-b l = (length l.bads ≡ 64) × BadIn l.bads l.trace l.b
