-- What is proved of the definitions: laws that all above cite.
pub mod laws
pub mod Prelude
