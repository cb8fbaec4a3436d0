-- What the engine's functions promise, in the rules' terms.
pub mod Moves
