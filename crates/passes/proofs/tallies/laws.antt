-- Laws of the numbers kept and of the marks, for the proofs of the code.
pub mod Grids
pub mod Taking
pub mod Turning
pub mod Quiet
pub mod Sound
