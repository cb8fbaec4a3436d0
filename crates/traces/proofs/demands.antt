-- What 02, C-11 says of a trace, as theorems.
pub mod Sizes
pub mod InBlocks
pub mod Told
pub mod Play
