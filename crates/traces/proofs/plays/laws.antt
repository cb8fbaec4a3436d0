-- Lemmas about playing, for the theorems and the code.
pub mod Computed
pub mod Prefixes
pub mod Drained
pub mod Rooms
pub mod InFront
pub mod Keeps
pub mod Late
pub mod Ways
