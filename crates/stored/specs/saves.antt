-- What it is to save a part of a state.
pub mod Shown
