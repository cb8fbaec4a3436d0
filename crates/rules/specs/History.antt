-- Histories of calls: one after another, from any device or from reset.
use Rattle.std.specs.Prelude.{true, List, [], ◌∷◌, ◌++◌, ℕ, zero, suc}
use Rattle.rules.specs.Device.{Device, Call, level, Step, step}
use Rattle.rules.specs.Device as device

-- calls, one after another: the device after them, all events made and all drained, in order
unfoldable pub history : Device → List Call → Step
history d [] = record { after = d; made = []; drained = [] }
history d (c ∷ cs) =
    let one = step d c in
    let two = history one.after cs in
    record { after = two.after; made = one.made ++ two.made; drained = one.drained ++ two.drained }

-- a history from reset (00, demand 3)
abbrev pub from_reset : List Call → Step
from_reset cs = history device.reset cs

-- k raises from input n on
unfoldable pub raises : ℕ → ℕ → List Call
raises n zero = []
raises n (suc k) = level n true ∷ raises (suc n) k
