-- What is proved of the pass, before any code.
pub mod laws
pub mod demands
