-- The device as the Rust has it: its state, its map, its window, and the decisions that both the port and the calls in place make.
pub mod state
pub mod map
pub mod decide
pub mod window
