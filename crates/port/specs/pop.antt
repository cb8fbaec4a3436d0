-- What a pop promises.
pub mod Pops
