-- `drain`: the places are those of the form.
use Rattle.basics.proofs.Prelude.{refl}
use Rattle.images.specs.Form.{count}
use Rattle.image.{specs.Shown.form_view, proofs.Forms.placed}
use Rattle.drain.proofs.drains.Drawing.{drains}
use Rattle.drain.proofs.drains.drain.Goals as goal
use Rattle.drain.proofs.drains.drain.Goals.{After-places_of-p}

pub returns : goal.returns
returns c = let h = c in let o = h in let g = o in let p = g in let s = p in
    drains (form_view s.args.form) s.args.image.now s.requires.0 (placed p.places_of-p.ensures count refl) refl s.args.out.now g.min-n.ensures o.copy_out.ensures h.shift.ensures
