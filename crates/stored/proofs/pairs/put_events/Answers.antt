-- `put_events`: after i turns the first i events stand in front as pairs, and every byte past them is as it was.
use Rattle.basics.proofs.Prelude.{sym, ap, ◌∙◌, ◌++◌, ◌*◌, arith, drop}
use Rattle.rules.specs.Ring.{pairs_of}
use Rattle.image.proofs.Forms.{byte_flag}
use Rattle.stored.proofs.pairs.{Written.take_slots, Written.written_next, Written.written_all}
use Rattle.stored.proofs.pairs.put_events.Goals as goal

pub loop-i-preserved : goal.loop-i-preserved
loop-i-preserved c = written_next c.args.ring.output_vectors c.args.ring.output_asserted c.loop-i.invariant (omega arith) (omega arith) c.from.result (c.from.ensures ∙ byte_flag _)

pub returns : goal.returns
returns c = let a = c.args in
    let r = a.ring in
    written_all r.output_vectors r.output_asserted c.loop-i.invariant (omega arith)
    ∙ ap (λ es. pairs_of es ++ drop (2 * a.n) a.dst.now) (sym (take_slots r.output_vectors r.output_asserted r.output_head a.n r.output_len (omega arith)))
