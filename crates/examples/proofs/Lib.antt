-- Computed examples: that the premises of the demands on histories, and those of a sweep, can be met, of calls of the device and of exported calls; and a
-- day of the plain engine. They stand apart from what they are examples of, which is checked once for each must-fail edit.
pub mod PremisesMet
pub mod ExportedMet
pub mod PartsMet
pub mod SweepMet
pub mod WaitingMet
pub mod OrderMet
pub mod WorkedDay
pub mod TracePlayed
pub mod TracePlayedOn
pub mod TraceSalvaged
pub mod BoardsMet
pub mod HoistMet
pub mod WorkedSheet
pub mod TallyMet
pub mod RefusalsMet
