-- `recorded_answer` is right since each of the two words that are written is the definition's.
use Rattle.basics.proofs.Prelude.{◌∙◌, ◌+◌, ◌*◌, eq-eqb, ne_eqb}
use Rattle.bits.specs.bytes.Put.{with_word}
use Rattle.replay.specs.records.Records.{answer_fill, word_at}
use Rattle.replay.proofs.records.recorded_answer.Goals as goal

pub returns-then-noted-eq7 : goal.returns-then-noted-eq7
returns-then-noted-eq7 c = rw (eq-eqb _ 7 c.if-noted-eq7.true)

pub returns : goal.returns
returns c = let two = c in
    let v = two in
    let one = v in
    let w₂ = one in
    let w₁ = w₂ in
    let e = w₁ in
    two.put_word-2.ensures
    ∙ (λ i. with_word 8 (v.word_at.ensures i) (one.put_word.ensures i))
    ∙ (λ i. with_word 8 (word_at 8 e.args.noted.now) (with_word 0 (w₁.from.ensures i + 256 * w₂.from-2.ensures i) answer_fill))
    ∙ rw (ne_eqb _ 7 e.if-noted-eq7.false)
