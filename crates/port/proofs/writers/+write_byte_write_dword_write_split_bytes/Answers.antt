-- The three writers meet their contracts together; the measure of each is its depth, which falls at each call, as with the readers.
use Rattle.basics.proofs.Prelude.{ap, sym, ◌∙◌, arith}
use Rattle.rules.specs.Access.{entry_acts, cell_acts}
use Rattle.laws.proofs.laws.{Widths.aligned_no_bytes, Losses.entry_quiet, Writes.byte_acts_inside, Writes.dword_acts_of}
use Rattle.device.{specs.state.View.view, specs.map.Views.cell_view, proofs.map.Indexes.byte_came, proofs.map.Indexes.no_byte}
use Rattle.port.specs.write_cell.Writes.{bytes_acts}
use Rattle.port.proofs.{readers.Deep.four_deep, write_cell.Bytes.four_bytes_lem}
use Rattle.port.proofs.write_cell.Acted.{writes_acts, writes_quiet, writes_none, byte_few, bytes_few, writes_outside, writes_more}
use Rattle.port.proofs.writers.+write_byte_write_dword_write_split_bytes.Goals as goal

pub write_byte-returns-in-Some : goal.write_byte-returns-in-Some
write_byte-returns-in-Some t c =
    let r = byte_came _ c.reg8_offset.ensures c.in-Some.is in
    writes_acts _ (byte_acts_inside _ _ _ r.0 ∙ ap (λ o. entry_acts o c.args.val) r.1) (writes_quiet (view c.args.state) _ _ (entry_quiet _ _ _) c.write_entry.ensures)

pub write_byte-read_dword-old-requires : goal.write_byte-read_dword-old-requires
write_byte-read_dword-old-requires t c = λ e. aligned_no_bytes _ c.ranges.offset.fits (no_byte _ c.reg8_offset.ensures c.in_default.is) e

pub write_byte-overflow_sub-depth : goal.write_byte-overflow_sub-depth
write_byte-overflow_sub-depth t c = c.requires.1 (no_byte _ c.reg8_offset.ensures c.in_default.is)

pub write_byte-write_dword-requires : goal.write_byte-write_dword-requires
write_byte-write_dword-requires t c =
    let n = no_byte _ c.reg8_offset.ensures c.in_default.is in
    (omega (arith, c.requires.1 n), (c.requires.0, λ e. aligned_no_bytes _ c.ranges.offset.fits n e))

pub write_byte-returns : goal.write_byte-returns
write_byte-returns t c =
    let n = no_byte _ c.reg8_offset.ensures c.in_default.is in
    writes_outside _ _ _ _ _ c.ranges.offset.fits n c.read_dword-old.ensures c.with_byte-new.ensures c.write_dword.ensures

pub write_dword-write_split_bytes-requires : goal.write_dword-write_split_bytes-requires
write_dword-write_split_bytes-requires t c =
    let e = sym c.decode.ensures ∙ ap cell_view c.in-Bytes.is in
    let h = c.requires.1 e in
    (omega (arith, h), (c.requires.0, four_deep _ _ e h))

pub write_dword-returns-in-Half : goal.write_dword-returns-in-Half
unfolding cell_acts
write_dword-returns-in-Half t c = writes_acts _ (sym (dword_acts_of _ _ (sym (ap cell_view c.in-Half.is) ∙ c.decode.ensures))) c.write_half.ensures

pub write_dword-returns-in-Bytes : goal.write_dword-returns-in-Bytes
write_dword-returns-in-Bytes t c = writes_acts _ (sym (four_bytes_lem _ _ _ (sym c.decode.ensures ∙ ap cell_view c.in-Bytes.is))) c.write_split_bytes.ensures

pub write_dword-returns-in-Nothing : goal.write_dword-returns-in-Nothing
unfolding cell_acts
write_dword-returns-in-Nothing t c = writes_acts _ (sym (dword_acts_of _ _ (sym (ap cell_view c.in-Nothing.is) ∙ c.decode.ensures))) (writes_none _ c.requires.0)

pub write_split_bytes-loop-idx-init : goal.write_split_bytes-loop-idx-init
unfolding bytes_acts
write_split_bytes-loop-idx-init t c = (omega arith, writes_none _ c.requires.0)

pub write_split_bytes-overflow_add-dropped : goal.write_split_bytes-overflow_add-dropped
write_split_bytes-overflow_add-dropped t c =
    let a = c.args in
    omega (arith, bytes_few (view a.state) a.offset a.val c.loop-idx.idx c.loop-idx.invariant.1, byte_few (view c.loop-idx.out) _ _ c.write_byte-one.ensures, c.requires.1.few)

pub write_split_bytes-loop-idx-preserved : goal.write_split_bytes-loop-idx-preserved
write_split_bytes-loop-idx-preserved t c =
    let a = c.args in
    (omega arith, writes_more (view a.state) a.offset a.val c.loop-idx.idx c.loop-idx.invariant.1 (rw c.byte_of.ensures at c.write_byte-one.ensures))
