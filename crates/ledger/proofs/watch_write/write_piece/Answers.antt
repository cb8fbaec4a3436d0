use Rattle.basics.proofs.Prelude.{sym, ap, ◌∙◌, ◌&&◌, ⊎_elim, rules}
use Rattle.rules.specs.Access.{cell_acts}
use Rattle.device.specs.map.Views.{cell_view}
use Rattle.ledger.specs.watch.Kept.{lines_of}
use Rattle.passes.proofs.tallies.laws.{Taking.follows_none, Quiet.follows_bytes}
use Rattle.ledger.proofs.watch_write.{Arms.piece_inside, Arms.piece_half, Arms.piece_none}
use Rattle.ledger.proofs.watch_write.write_piece.Goals as goal

pub returns-then-narrow-in_byte_area : goal.returns-then-narrow-in_byte_area
returns-then-narrow-in_byte_area c = let a = c.args in
    piece_inside (lines_of a.w) a.w.waiting a.sheet.now a.k a.offset a.x a.narrow (sym (ap (λ z. a.narrow && z) c.in_byte_area.ensures) ∙ c.if-narrow-in_byte_area.true)

pub returns-in-Half : goal.returns-in-Half
returns-in-Half c = let a = c.args in
    let g = c.in-Half in
    let p = c.place_of in
    let v = c.value_in-val in
    piece_half a.k a.offset a.x (search rules) a.narrow (sym (ap (λ z. a.narrow && z) c.in_byte_area.ensures) ∙ c.if-narrow-in_byte_area.false) g.register g.high p.result p.ensures (ap cell_view (sym g.is) ∙ c.decode_low.ensures) v.result v.ensures c.write_half.ensures

pub returns-in-Bytes : goal.returns-in-Bytes
returns-in-Bytes c = unfold cell_acts in
    let a = c.args in
    let p = c.place_of in
    let out = sym (ap (λ z. a.narrow && z) c.in_byte_area.ensures) ∙ c.if-narrow-in_byte_area.false in
    ⊎_elim
    (λ e. piece_none (lines_of a.w) a.w.waiting a.sheet.now a.k a.offset a.x (search rules) a.narrow out p.result p.ensures _ (ap cell_view (sym e) ∙ c.decode_low.ensures) (λ q v. follows_bytes (lines_of a.w) a.w.waiting a.sheet.now a.k q v))
    (λ e. piece_none (lines_of a.w) a.w.waiting a.sheet.now a.k a.offset a.x (search rules) a.narrow out p.result p.ensures _ (ap cell_view (sym e) ∙ c.decode_low.ensures) (λ q v. follows_none (lines_of a.w) a.w.waiting a.sheet.now a.k))
    c.in-Bytes.is
