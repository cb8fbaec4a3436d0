-- What the functions of this crate take, as the rules see it.
pub mod Given
