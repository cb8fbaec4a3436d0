-- `write_dword`: by what stands at the offset.
use Rattle.basics.proofs.Prelude.{sym, ap, ◌∙◌, [], arith}
use Rattle.rules.specs.{Map.bytes, Access.cell_acts, Access.dword_acts}
use Rattle.laws.proofs.laws.Writes.{dword_acts_of}
use Rattle.device.specs.map.Views.{cell_view}
use Rattle.fields.proofs.inplace.Doing.{writes_none, writes_same}
use Rattle.access.proofs.cells.write_dword.Goals as goal

pub returns-in-Half : goal.returns-in-Half
unfolding cell_acts
returns-in-Half c = let w = c.write_half.ensures in
    let a = c.args in
    (w.0, writes_same _ (λ k. dword_acts a.offset a.val) w.1 (λ d ns h. dword_acts_of a.offset a.val (sym (ap cell_view c.in-Half.is) ∙ c.decode_low.ensures)))

pub returns-in-Bytes : goal.returns-in-Bytes
unfolding cell_acts
returns-in-Bytes c = let a = c.args in
    (omega arith, writes_same (λ k. cell_acts a.offset a.val bytes) (λ k. dword_acts a.offset a.val) c.write_four.ensures (λ d ns h. dword_acts_of a.offset a.val (sym (ap cell_view c.in-Bytes.is) ∙ c.decode_low.ensures)))

pub returns-in-Nothing : goal.returns-in-Nothing
unfolding cell_acts
returns-in-Nothing c = let a = c.args in
    (omega arith, writes_same (λ k. []) (λ k. dword_acts a.offset a.val) (writes_none a.image.now) (λ d ns h. dword_acts_of a.offset a.val (sym (ap cell_view c.in-Nothing.is) ∙ c.decode_low.ensures)))
