-- What the functions of this module are given, in the terms of salvages.
pub mod Given
