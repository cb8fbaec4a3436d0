-- What 02, C-20 asks of boards, as theorems.
pub mod Kept
pub mod Second
pub mod Ended
pub mod ByNumber
