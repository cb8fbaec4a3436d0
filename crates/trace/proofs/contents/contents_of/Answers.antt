-- `contents_of`: each refusal is a fact of good contents that does not hold.
use Rattle.basics.proofs.Prelude.{◌∙◌, arith}
use Rattle.trace.proofs.contents.Whole.{wrong_is, not_listed, other_end, good_is}
use Rattle.trace.proofs.contents.contents_of.Goals as goal

pub returns-then-trace-lt2 : goal.returns-then-trace-lt2
returns-then-trace-lt2 c = wrong_is c.args.trace.now (λ g. omega (arith, g.ends))

pub returns-then-blocks-eq0 : goal.returns-then-blocks-eq0
returns-then-blocks-eq0 c = wrong_is c.args.trace.now (λ g. omega (arith, g.some, c.two_at-blocks.ensures.0))

pub returns-then-blocks-gt-MOST_BLOCKS : goal.returns-then-blocks-gt-MOST_BLOCKS
returns-then-blocks-gt-MOST_BLOCKS c = wrong_is c.args.trace.now (λ g. omega (arith, g.few, c.two_at-blocks.ensures.0))

pub returns-then-trace-first : goal.returns-then-trace-first
returns-then-trace-first c = wrong_is c.args.trace.now (λ g. omega (arith, g.ends, c.two_at-blocks.ensures.0))

pub returns-in_err-count : goal.returns-in_err-count
returns-in_err-count c = c.from_residual.ensures ∙ not_listed c.args.trace.now c.two_at-blocks.ensures.0 c.in_err-count.ensures

pub returns-then-trace-first-2 : goal.returns-then-trace-first-2
returns-then-trace-first-2 c = other_end c.args.trace.now c.two_at-blocks.ensures.0 c.in_ok-count.ensures (λ z. omega (arith, z))

pub returns : goal.returns
returns c = good_is c.args.trace.now c.two_at-blocks.ensures.0 c.in_ok-count.ensures (omega arith) (omega arith) (omega arith)
