-- `reg8_offset` is right since its test is that of the range.
use Rattle.basics.proofs.Prelude.{◌≡◌, refl, Bool, true, false, ℕ}
use Rattle.std.specs.Bool.{then_some}
use Rattle.device.specs.map.Views.{index_if, byte_index}
use Rattle.device.proofs.map.reg8_offset.Goals as goal

chosen : (b : Bool) (o : ℕ) → then_some b o ≡ index_if b o
chosen true o = refl
chosen false o = refl

pub returns : goal.returns
unfolding byte_index
returns c = rw (c.then_some.ensures, c.in_byte_area.ensures) (chosen _ _)
