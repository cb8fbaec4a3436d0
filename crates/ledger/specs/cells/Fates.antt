-- What becomes of an event, as the plain engine notes it.
use Rattle.std.specs.Prelude.{ℕ, ◌<◌, Bool, List}
use Rattle.passes.specs.tallies.Grid.{Roomy, record_limit}
use Rattle.plain.specs.Events as events
use Rattle.plain.specs.Events.{Note}
use Rattle.ledger.specs.declared.cells.Fate.{Fate}
use Rattle.ledger.specs.declared.cells.Fate.TheVariants.{Returned, Kept, Dropped}

abbrev pub fate_view : Fate → events.Fate
fate_view Returned = events.returned
fate_view Kept = events.kept
fate_view Dropped = events.dropped

-- an event of the input n at the record k; the sheet does not ask for its vector
abbrev pub note_with : ℕ → ℕ → Bool → events.Fate → Note
note_with n k b f = record { input = n; call = k; vector = 0; asserted = b; fate = f }

-- there is room for the numbers, the input is one of the 64, and the record has a number that fits
abbrev pub Ready : Bool → List ℕ → ℕ → ℕ → Type 0
Ready w l n k = Roomy w l × (n < 64) × (k < record_limit w)
