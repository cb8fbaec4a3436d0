-- `checksum`: the sum on over the bytes that are left is that of the byte at hand, and then of those behind it.
use Rattle.basics.proofs.Prelude.{sym, ap, ◌∙◌, ℕ, ◌+◌, ◌*◌, ◌%◌, arith, drop, drop_of_length-le, next}
use Rattle.replay.specs.records.Records.{checksum_of}
use Rattle.replay.proofs.records.checksum.Goals as goal

pub loop-byte-preserved : goal.loop-byte-preserved
loop-byte-preserved c = unfold checksum_of in let l = c.loop-byte in (
  omega arith,
  ap (λ (n : ℕ). checksum_of ((257 * l.sum + n + 1) % 4294967291) (drop (l.byte-index + 1) c.args.b.now)) c.from.ensures
      ∙ sym (ap (checksum_of l.sum) (next c.args.b.now l.byte-index 0 (omega arith)))
      ∙ l.invariant.1,
)

pub returns : goal.returns
returns c = unfold checksum_of in let l = c.loop-byte in
    ap (checksum_of l.sum) (sym (drop_of_length-le _ c.loop-byte-test.false)) ∙ l.invariant.1
