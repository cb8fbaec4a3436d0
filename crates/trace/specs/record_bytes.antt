-- What the functions of this module hand back, in the rules' terms.
pub mod Shown
