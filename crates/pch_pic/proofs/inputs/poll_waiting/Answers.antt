-- `poll_waiting`: in the arm of its form the image is accepted where the test for few is passed, and else tested in full.
use Rattle.basics.proofs.Prelude.{arith, rules}
use Rattle.pch_pic.proofs.Fronts.{arm, few_passed}
use Rattle.pch_pic.proofs.inputs.poll_waiting.Goals as goal

pub poll_on-requires : goal.poll_on-requires
poll_on-requires c = (few_passed c.args.image.now c.requires.0 c.in-One-by_form.is (search rules) c.few_odd.ensures (omega arith), c.requires.1)

pub poll_tested-requires : goal.poll_tested-requires
poll_tested-requires c = (arm c.args.image.now c.requires.0 c.in-One-by_form.is, c.requires.1)

pub poll_on-requires-then-few_odd-eq0-2 : goal.poll_on-requires-then-few_odd-eq0-2
poll_on-requires-then-few_odd-eq0-2 c = (few_passed c.args.image.now c.requires.0 c.in-Two-by_form.is (search rules) c.few_odd-2.ensures (omega arith), c.requires.1)

pub poll_tested-requires-2 : goal.poll_tested-requires-2
poll_tested-requires-2 c = (arm c.args.image.now c.requires.0 c.in-Two-by_form.is, c.requires.1)

pub poll_on-requires-then-few_odd-eq0-3 : goal.poll_on-requires-then-few_odd-eq0-3
poll_on-requires-then-few_odd-eq0-3 c = (few_passed c.args.image.now c.requires.0 c.in-Numbered-by_form.is (search rules) c.few_odd-3.ensures (omega arith), c.requires.1)

pub poll_tested-requires-3 : goal.poll_tested-requires-3
poll_tested-requires-3 c = (arm c.args.image.now c.requires.0 c.in-Numbered-by_form.is, c.requires.1)
