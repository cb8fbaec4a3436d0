-- `contents_of`: the numbers that the contents spell, by computing.
use Rattle.basics.proofs.Prelude.{refl, lit≤}
use Rattle.image.proofs.form.contents_of.Goals as goal

pub returns-in-Numbered : goal.returns-in-Numbered
returns-in-Numbered c = rw c.in-Numbered.is (record { first = refl; second = refl; third = refl; last = refl; ends = refl; low = lit≤ tt; high = lit≤ tt })
