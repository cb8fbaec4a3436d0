-- What is proved of the definitions: laws that the code's proofs cite, and the demands.
pub mod laws
pub mod demands
