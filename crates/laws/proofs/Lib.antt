-- What follows from the rules: laws that the code's proofs cite, demands of an image, and that the calls keep to their tables of refusals.
pub mod laws
pub mod demands
