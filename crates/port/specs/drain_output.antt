-- What a drain promises.
pub mod Drains
