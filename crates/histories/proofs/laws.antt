-- Lemmas about acts, calls and histories, for the demands.
pub mod Computed
pub mod Reach
pub mod Chained
pub mod Folds
pub mod Taking
pub mod Admitting
pub mod Latches
pub mod Carriers
pub mod Draining
pub mod WellFormed
