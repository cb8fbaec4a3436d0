-- What is proved of the order of events: laws, and the theorems.
pub mod laws
pub mod demands
