-- What a push promises.
pub mod Pushes
