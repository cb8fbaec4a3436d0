-- What the writers promise: the device after the acts of the write, and how many of their events the ring dropped.
use Rattle.std.specs.Prelude.{◌≡◌, List, [], ◌++◌, ℕ, zero, suc, ◌+◌}
use Rattle.basics.specs.Numbers.{byte_of}
use Rattle.rules.specs.Core.{Core, Act, turns}
use Rattle.rules.specs.Access.{byte_acts}
use Rattle.rules.specs.Device.{Device, acted, lost}
use Rattle.device.specs.state.View.{Is}
use Rattle.port.specs.declared.write_cell.Written.{Written}

pub record Writes (r : Written) (d : Device) (xs : List Act) : Type 0 where
  pub is : Is r.state (acted d xs)
  pub dropped : r.dropped ≡ lost d.ring (turns d.core xs).made

-- the n low Bytes of v written from o on, low first, each after the one before has taken effect (01, The four widths: Word)
unfoldable pub bytes_acts : Core → ℕ → ℕ → ℕ → List Act
bytes_acts c o v zero = []
bytes_acts c o v (suc n) =
    let xs = bytes_acts c o v n in
    xs ++ byte_acts (turns c xs).after (o + n) (byte_of v n)
