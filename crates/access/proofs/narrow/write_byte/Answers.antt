-- `write_byte`: inside 0x100..0x39f one byte, and elsewhere the Dword that it lies in.
use Rattle.basics.proofs.Prelude.{sym, ◌∙◌, arith, bit_and, mask_lt, rules}
use Rattle.rules.specs.Access.{entry_acts, byte_acts}
use Rattle.laws.proofs.laws.{Halves.byte_replaced, Writes.byte_acts_inside}
use Rattle.fields.proofs.inplace.Doing.{writes_same}
use Rattle.access.proofs.narrow.Bytes.{outside_written}
use Rattle.access.proofs.narrow.write_byte.Goals as goal

pub returns-then-in_byte_area : goal.returns-then-in_byte_area
returns-then-in_byte_area c = let a = c.args in
    (omega arith, writes_same (λ k. entry_acts a.offset a.val) (λ k. byte_acts k a.offset a.val) c.write_entry.ensures (λ d ns h. sym (byte_acts_inside a.offset a.val d.core (sym c.in_byte_area.ensures ∙ c.if-in_byte_area.true))))

pub returns : goal.returns
returns c = let w = c.write_dword.ensures in
    let r = c in
    let a = c.args in
    let small = mask_lt a.offset 2 in (
      w.0,
      outside_written a.offset a.val (search rules) (sym r.in_byte_area.ensures ∙ r.if-in_byte_area.false) r.read_dword-old.ensures
          (byte_replaced 32 r.read_dword-old.result (bit_and a.offset 0x3) a.val (omega arith) (search rules) (search rules)) w.1,
    )
