-- The parts of a write.
pub mod Pieces
