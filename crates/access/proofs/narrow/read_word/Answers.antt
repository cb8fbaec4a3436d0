-- `read_word`: both Bytes out of one Dword, or one after the other.
use Rattle.basics.proofs.Prelude.{sym, ◌∙◌, arith, eqb, bit_and}
use Rattle.rules.specs.Access.{read_at}
use Rattle.access.proofs.narrow.{Bytes.neither_is, Bytes.word_in_dword}
use Rattle.access.proofs.narrow.read_word.Goals as goal

pub returns-then-place-in_byte_area : goal.returns-then-place-in_byte_area
returns-then-place-in_byte_area c d ns h =
    let t = c in
    let a = t in
    let s = a in
    let o = s.args.offset in
    let n = neither_is (eqb (bit_and o 0x3) 3) a.in_byte_area.result t.if-place-in_byte_area.true in
    word_in_dword d.core o (omega (arith, s.requires.1)) n.0 (sym a.in_byte_area.ensures ∙ n.1) (c.read_dword-both.ensures d ns h)

pub returns : goal.returns
unfolding read_at
returns c d ns h = omega (arith, c.read_byte-low.ensures d ns h, c.read_byte-high.ensures d ns h)
