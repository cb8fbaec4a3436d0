-- What the writers promise.
pub mod Writes
