-- `unused_zero`: nothing is gathered behind those that wait, of either.
use Rattle.basics.proofs.Prelude.{◌∙◌, ◌&&◌}
use Rattle.image.proofs.unused.Pairs.{zero_or}
use Rattle.image.proofs.unused.unused_zero.Goals as goal

pub returns : goal.returns
returns c = zero_or c.behind.result c.behind-2.result ∙ (λ t. c.behind.ensures t && c.behind-2.ensures t)
