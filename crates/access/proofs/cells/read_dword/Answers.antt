use Rattle.basics.proofs.Prelude.{sym, ap, ◌∙◌, ℕ, half}
use Rattle.rules.specs.Access.{read_cell}
use Rattle.laws.proofs.laws.Widths.{dword_of}
use Rattle.device.specs.map.Views.{cell_view}
use Rattle.access.proofs.cells.read_dword.Goals as goal

pub returns-in-Half : goal.returns-in-Half
unfolding read_cell
returns-in-Half c d ns h = c.half.ensures ∙ ap (λ (x : ℕ). half c.in-Half.high x) (c.value_of.ensures d ns h)
    ∙ dword_of d.core c.args.offset (sym (ap cell_view c.in-Half.is) ∙ c.decode_low.ensures)

pub returns-in-Bytes : goal.returns-in-Bytes
unfolding read_cell
returns-in-Bytes c d ns h = c.read_four.ensures d ns h ∙ dword_of d.core c.args.offset (sym (ap cell_view c.in-Bytes.is) ∙ c.decode_low.ensures)

pub returns-in-Nothing : goal.returns-in-Nothing
unfolding read_cell
returns-in-Nothing c d ns h = dword_of d.core c.args.offset (sym (ap cell_view c.in-Nothing.is) ∙ c.decode_low.ensures)
