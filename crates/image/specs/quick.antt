-- What the functions of this module promise, in the rules' terms.
pub mod Quiet
