-- What is proved of traces: laws, and the theorems.
pub mod laws
pub mod demands
pub mod plays
pub mod salvages
