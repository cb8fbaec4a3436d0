-- What follows from the promises of this crate.
pub mod Alike
