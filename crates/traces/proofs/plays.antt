-- What is proved of playing: laws that the player's proofs cite, and the demands.
pub mod laws
pub mod demands
