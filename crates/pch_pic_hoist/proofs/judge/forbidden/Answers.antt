-- `forbidden`: ISR, then an offset that is none of the vectors', then the phase, and then the four bytes.
use Rattle.basics.proofs.Prelude.{sym, ◌∙◌}
use Rattle.pch_pic_hoist.proofs.judge.Judging.{wholly, isr_judged, elsewhere_judged, running_judged, vectors_judged}
use Rattle.pch_pic_hoist.proofs.judge.forbidden.Goals as goal

pub returns-then-is_isr : goal.returns-then-is_isr
returns-then-is_isr c = let a = c.args in isr_judged a.image.now a.offset a.value a.running (sym c.is_isr.ensures ∙ c.if-is_isr.true)

pub returns-then-not-in_vectors : goal.returns-then-not-in_vectors
returns-then-not-in_vectors c = let a = c.args in
    elsewhere_judged a.image.now a.offset a.value a.running (sym c.is_isr.ensures ∙ c.if-is_isr.false) c.requires.1 (sym c.in_vectors.ensures ∙ c.if-not-in_vectors.true)

pub returns-then-running : goal.returns-then-running
returns-then-running c = let a = c.args in
    running_judged a.image.now a.offset a.value a.running (sym c.is_isr.ensures ∙ c.if-is_isr.false) (sym c.in_vectors.ensures ∙ c.if-not-in_vectors.false) c.if-running.true

pub forbidden_in_vectors-requires : goal.forbidden_in_vectors-requires
forbidden_in_vectors-requires c =
    let w = wholly c.args.offset c.requires.1 (sym c.in_vectors.ensures ∙ c.if-not-in_vectors.false) in (c.requires.0, w.0, w.1)

pub returns : goal.returns
returns c = let a = c.args in
    vectors_judged a.image.now a.offset a.value a.running (sym c.is_isr.ensures ∙ c.if-is_isr.false) c.if-running.false c.forbidden_in_vectors.ensures
