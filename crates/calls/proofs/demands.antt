-- What was asked for in prose of one exported call, as theorems over the definitions alone.
pub mod WhollyInside
pub mod OneOutcome
pub mod Refused
pub mod WhoWaits
