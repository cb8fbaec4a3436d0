-- Lemmas about positions, fates and numbers, for the theorems.
pub mod Computed
pub mod Positions
pub mod Standing
pub mod Fates
pub mod Returned
pub mod Counted
pub mod Reading
pub mod Sorting
pub mod Distances
