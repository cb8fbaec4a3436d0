-- What the moves that offer events promise.
pub mod Moves
