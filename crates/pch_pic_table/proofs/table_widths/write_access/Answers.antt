-- `write_access`: by the width.
use Rattle.basics.proofs.Prelude.{arith}
use Rattle.six_calls.proofs.accepted_access.Reaching.{byte_low, word_low, dword_low}
use Rattle.pch_pic_table.proofs.table_widths.write_access.Goals as goal

pub returns-in-Byte : goal.returns-in-Byte
returns-in-Byte c = let a = c.args in
    let w = c.write_byte.ensures in
    (omega arith, rw c.in-Byte.is (byte_low a.offset a.value c.half-low.ensures c.byte_of.ensures w.1))

pub returns-in-Word : goal.returns-in-Word
returns-in-Word c = let a = c.args in
    let w = c.write_word.ensures in
    (w.0, rw c.in-Word.is (word_low a.offset a.value c.half-low.ensures w.1))

pub returns-in-Dword : goal.returns-in-Dword
returns-in-Dword c = let a = c.args in
    let w = c.write_dword.ensures in
    (omega arith, rw c.in-Dword.is (dword_low a.offset a.value c.half-low.ensures w.1))
