use Rattle.basics.proofs.Prelude.{sym, ap, ◌∙◌, ℕ, bit_and, rules, byte_of}
use Rattle.laws.proofs.laws.Widths.{byte_inside, byte_outside}
use Rattle.access.proofs.narrow.read_byte.Goals as goal

pub returns-then-in_byte_area : goal.returns-then-in_byte_area
returns-then-in_byte_area c d ns h = c.read_entry.ensures d ns h ∙ sym (byte_inside d.core c.args.offset (sym c.in_byte_area.ensures ∙ c.if-in_byte_area.true))

pub returns : goal.returns
returns c d ns h = let s = c in
    c.byte_of.ensures ∙ ap (λ (x : ℕ). byte_of x (bit_and s.args.offset 0x3)) (c.read_dword.ensures d ns h)
    ∙ sym (byte_outside d.core s.args.offset (search rules) (sym c.in_byte_area.ensures ∙ c.if-in_byte_area.false))
