-- What is proved of a sweep: laws, and the theorems.
pub mod laws
pub mod demands
