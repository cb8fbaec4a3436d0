-- `one_fits`: only where the count is 1, there is room for one, and both parts of the test are passed.
use Rattle.basics.proofs.Prelude.{refl, sym, ◌∙◌, and-eq-true_iff, bit_or, arith, eqb, leb, leb-true, eq-eqb, eqb-true}
use Rattle.images.specs.Form.{count}
use Rattle.image.{specs.Shown.form_view, proofs.Forms.always_within, proofs.bodies.Rings.counts, proofs.bodies.Rings.nothing}
use Rattle.six_calls.proofs.reset_drain.one_fits.Goals as goal

pub bounds-image-count : goal.bounds-image-count
bounds-image-count c = let p = c in let s = p in
    omega (arith, always_within (form_view s.args.form) s.args.image.now s.requires p.places_of-p.result p.places_of-p.ensures count refl)

pub returns : goal.returns
returns c = let h = c in let i = h in let p = i in let s = p in
    let tests = (and-eq-true_iff (eqb (bit_or h.contents_apart.result c.single_odd.result) 0) (leb 4 s.args.room)).0 in (
      λ t. let both = nothing h.contents_apart.result c.single_odd.result (eqb-true _ 0 (tests t).0) in (
        sym h.contents_apart.ensures ∙ eq-eqb h.contents_apart.result 0 both.0,
        c.single_odd.ensures both.1,
        sym (counts (form_view s.args.form) s.args.image.now s.requires p.places_of-p.result p.places_of-p.ensures) ∙ i.if-image-count-ne1.false,
      ),
      λ t. leb-true 4 s.args.room (tests t).1,
    )
