-- What is asked of the exported call, as theorems.
pub mod Ended
pub mod ByNumber
