-- What is proved of the plain engine: laws, and that it gives what the ported engine gives.
pub mod laws
pub mod demands
