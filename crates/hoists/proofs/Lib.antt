-- What is proved of the hoist profile: laws that the proofs of its code, and what was asked of it (under_profile), cite.
pub mod laws
pub mod under_profile
