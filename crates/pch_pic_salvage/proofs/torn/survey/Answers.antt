-- `survey`: the blocks looked at so far have their first bad records in the array.
use Rattle.basics.proofs.Prelude.{ap, ◌∙◌, arith, length-set}
use Rattle.pch_pic_salvage.proofs.torn.{Rounds.few_blocks, Rounds.its_entry, Rounds.lies, Rounds.bad_is, Rounds.short, Rounds.one_found}
use Rattle.traces.specs.Trace as traces
use Rattle.pch_pic_salvage.proofs.torn.survey.Goals as goal

pub block_at-block-requires : goal.block_at-block-requires
block_at-block-requires c = its_entry c.args.trace.now c.requires c.loop-b.b (omega arith)

pub first_bad-requires : goal.first_bad-requires
first_bad-requires c = let w = lies c.args.trace.now c.requires c.loop-b.b (omega arith) in
    let e = c.block_at-block.ensures in
    let p = ap (λ (x : traces.Block). x.offset) e in
    let q = ap (λ (x : traces.Block). x.records) e in
    (omega (arith, q, w.few), omega (arith, p, q, w.fits))

pub overflow_cast-bads : goal.overflow_cast-bads
overflow_cast-bads c = let l = c.loop-b in
    let e = c.block_at-block.ensures in
    let t = c.args.trace.now in
    omega (
      arith,
      short t c.requires l.b (omega arith),
      bad_is t c.requires l.b (omega arith) (ap (λ (x : traces.Block). x.offset) e) (ap (λ (x : traces.Block). x.records) e) c.first_bad.ensures,
    )

pub offset_bounds-bads-b : goal.offset_bounds-bads-b
offset_bounds-bads-b c = omega (arith, few_blocks c.args.trace.now c.requires c.loop-b.b (omega arith))

pub bounds-bads-b : goal.bounds-bads-b
bounds-bads-b c = omega (arith, few_blocks c.args.trace.now c.requires c.loop-b.b (omega arith))

pub loop-b-preserved : goal.loop-b-preserved
loop-b-preserved c = let l = c.loop-b in
    let few = few_blocks c.args.trace.now c.requires l.b (omega arith) in
    let e = c.block_at-block.ensures in (
      length-set l.bads l.b c.first_bad.result ∙ l.invariant.0,
      one_found l.bads c.args.trace.now l.b (omega (arith, few, l.invariant.0)) l.invariant.1
          (bad_is c.args.trace.now c.requires l.b (omega arith) (ap (λ (x : traces.Block). x.offset) e) (ap (λ (x : traces.Block). x.records) e) c.first_bad.ensures),
    )
