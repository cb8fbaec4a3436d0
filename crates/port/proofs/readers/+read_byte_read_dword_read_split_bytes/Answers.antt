-- The three readers meet their contracts together; the measure of each is its depth, which falls at each call.
-- A Byte outside 0x100..0x39f lies in a Dword that is not among the bytes, and the four Bytes of one that is lie inside, so two steps end it.
use Rattle.basics.proofs.Prelude.{refl, ap, sym, ◌∙◌, arith, lit<}
use Rattle.rules.specs.Access.{entry, read_cell}
use Rattle.laws.proofs.laws.Widths.{aligned_no_bytes, byte_inside, byte_outside, dword_of}
use Rattle.device.{specs.state.View.view, specs.map.Views.cell_view, proofs.map.Indexes.byte_came, proofs.map.Indexes.no_byte}
use Rattle.port.specs.readers.Bytes.{bytes_read}
use Rattle.port.proofs.readers.{Bytes.more, Bytes.more_lt, Bytes.four_read, Deep.four_deep}
use Rattle.port.proofs.readers.+read_byte_read_dword_read_split_bytes.Goals as goal

pub read_byte-returns-in-Some : goal.read_byte-returns-in-Some
read_byte-returns-in-Some t c =
    let r = byte_came _ c.reg8_offset.ensures c.in-Some.is in
    c.read_entry.ensures ∙ ap (entry (view c.args.state).core) (sym r.1) ∙ sym (byte_inside _ _ r.0)

pub read_byte-overflow_sub-depth : goal.read_byte-overflow_sub-depth
read_byte-overflow_sub-depth t c = c.requires (no_byte _ c.reg8_offset.ensures c.in_default.is)

pub read_byte-read_dword-requires : goal.read_byte-read_dword-requires
read_byte-read_dword-requires t c =
    let n = no_byte _ c.reg8_offset.ensures c.in_default.is in
    (omega (arith, c.requires n), λ e. aligned_no_bytes _ c.ranges.offset.fits n e)

pub read_byte-returns : goal.read_byte-returns
read_byte-returns t c =
    let n = no_byte _ c.reg8_offset.ensures c.in_default.is in
    (rw c.read_dword.ensures at c.byte_of.ensures) ∙ sym (byte_outside _ _ c.ranges.offset.fits n)

pub read_dword-read_split_bytes-requires : goal.read_dword-read_split_bytes-requires
read_dword-read_split_bytes-requires t c =
    let e = sym c.decode.ensures ∙ ap cell_view c.in-Bytes.is in
    let h = c.requires e in
    (omega (arith, h), four_deep _ _ e h)

pub read_dword-returns-in-Half : goal.read_dword-returns-in-Half
unfolding read_cell
read_dword-returns-in-Half t c = (rw c.value_of.ensures at c.half.ensures) ∙ dword_of _ _ (sym (ap cell_view c.in-Half.is) ∙ c.decode.ensures)

pub read_dword-returns-in-Bytes : goal.read_dword-returns-in-Bytes
read_dword-returns-in-Bytes t c = c.read_split_bytes.ensures ∙ four_read _ _ (sym c.decode.ensures ∙ ap cell_view c.in-Bytes.is)

pub read_dword-returns-in-Nothing : goal.read_dword-returns-in-Nothing
unfolding read_cell
read_dword-returns-in-Nothing t c = dword_of _ _ (sym (ap cell_view c.in-Nothing.is) ∙ c.decode.ensures)

pub read_split_bytes-loop-idx-init : goal.read_split_bytes-loop-idx-init
unfolding bytes_read
read_split_bytes-loop-idx-init t c = (omega arith, refl, lit< tt)

pub read_split_bytes-loop-idx-preserved : goal.read_split_bytes-loop-idx-preserved
read_split_bytes-loop-idx-preserved t c =
    let i = c.loop-idx.idx in
    let v = c.loop-idx.value in
    rw c.from.ensures (
      omega arith,
      more i v c.read_byte.result (omega (arith, c.requires.few)) c.loop-idx.invariant.2 c.read_byte.type_inv (view c.args.state).core c.args.offset c.loop-idx.invariant.1 c.read_byte.ensures,
      more_lt i v c.read_byte.result (omega (arith, c.requires.few)) c.loop-idx.invariant.2 c.read_byte.type_inv,
    )
