-- What is proved of salvaging: laws that the code's proofs cite, and the demands.
pub mod laws
pub mod demands
