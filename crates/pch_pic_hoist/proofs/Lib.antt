-- What follows from how a call ends, and from the promises of this crate.
pub mod Once
