-- `write_register` is right since each width has its writer, a depth of 2 is enough for any offset, and the low half keeps the low bytes.
use Rattle.basics.proofs.Prelude.{low_bytes, sym, ◌∙◌}
use Rattle.rules.specs.Access.{write_acts}
use Rattle.port.proofs.{write_cell.Bytes.word_bytes, write_cell.Acted.writes_acts}
use Rattle.port.proofs.by_width.write_register.Goals as goal

pub returns-in-Byte : goal.returns-in-Byte
unfolding write_acts
returns-in-Byte c =
    let l = low_bytes _ _ c.half-low.ensures in
    rw c.in-Byte.is (rw (c.byte_of.ensures ∙ l.0) at c.write_byte.ensures)

pub returns-in-Word : goal.returns-in-Word
unfolding write_acts
returns-in-Word c =
    let l = low_bytes _ _ c.half-low.ensures in
    rw c.in-Word.is (writes_acts _ (sym (word_bytes _ _ _ _ l.0 l.1)) c.write_split_bytes.ensures)

pub returns-in-Dword : goal.returns-in-Dword
unfolding write_acts
returns-in-Dword c = rw c.in-Dword.is (rw c.half-low.ensures at c.write_dword.ensures)
