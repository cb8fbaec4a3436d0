-- `odd`: nothing is gathered of either part.
use Rattle.basics.proofs.Prelude.{sym, ◌∙◌, eq-eqb}
use Rattle.image.proofs.bodies.Rings.{nothing}
use Rattle.image.proofs.quick.odd.Goals as goal

pub returns : goal.returns
returns c z = let both = nothing c.contents_apart.result c.bodies_odd.result z in
    (sym c.contents_apart.ensures ∙ eq-eqb c.contents_apart.result 0 both.0, (c.bodies_odd.ensures both.1).0, (c.bodies_odd.ensures both.1).1)
