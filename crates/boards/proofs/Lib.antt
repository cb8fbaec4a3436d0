-- What is proved of boards: laws, and the theorems.
pub mod laws
pub mod demands
