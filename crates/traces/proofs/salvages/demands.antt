-- What 02, C-23 asks of salvaging, as theorems.
pub mod Blocks
pub mod Listed
pub mod Left
pub mod ByNumber
pub mod Exactly
pub mod Longest
