-- `one`: as `drain`, with one that waits and room for it.
use Rattle.basics.proofs.Prelude.{refl, sym, arith}
use Rattle.image.specs.Shown.{form_view}
use Rattle.drain.proofs.drains.Drawing.{drains}
use Rattle.drain.proofs.drains.one.Goals as goal

pub returns : goal.returns
returns c = let h = c in let o = h in let s = o in
    drains (form_view s.args.form) s.args.image.now s.requires.0 refl (sym s.requires.1) s.args.out.now (omega (arith, s.requires.2)) o.copy_out.ensures h.shift.ensures
