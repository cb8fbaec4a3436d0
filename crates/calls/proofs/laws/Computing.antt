-- One name that opens every definition that has to compute for a device, or an exported call, to run on closed numbers.
use Rattle.basics.proofs.Prelude.{ℕ}
use Rattle.rules.proofs.laws.Running.{running}
use Rattle.images.specs.{Form.image, Image.ring_body, Image.number_body, Image.encode_like, Image.decode, Image.numbers_in, Image.image_test}
use Rattle.calls.specs.Calls.{performed, answered, written, outcome}

unfoldable pub computing : ℕ
unfolding running image ring_body number_body encode_like decode numbers_in image_test performed answered written outcome
computing = 0
