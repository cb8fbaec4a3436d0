-- What is proved of histories: laws, and the demands.
pub mod laws
pub mod demands
pub mod exported
