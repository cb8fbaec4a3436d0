-- What is proved of the definitions: laws that the code's proofs cite.
pub mod laws
