-- Demand 2, the marked dozen: from reset, each row of the table finds what 01 says. One statement over the whole table, computed.
use mathlib.Core.{Path.◌≡◌, Path.refl, List.map}
use Rattle.sessions.specs.Dozen.{found, dozen}
use Rattle.calls.proofs.laws.Computing.{computing}

pub dozen_holds : map found dozen ≡ map (λ m. m.expected) dozen
unfolding computing found
dozen_holds = refl
