-- Lemmas about counts, boards and the order of events, for the theorems.
pub mod Computed
pub mod Counts
pub mod Boards
pub mod Heard
pub mod Arranged
pub mod Completed
pub mod Fronts
