-- `from_zero`: the same bytes by computing.
use Rattle.basics.proofs.Prelude.{refl}
use Rattle.rules.specs.Device.{up_from}
use Rattle.fields.proofs.number_bytes.from_zero.Goals as goal

pub returns : goal.returns
returns c = unfold up_from in refl
