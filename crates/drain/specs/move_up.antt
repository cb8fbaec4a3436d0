-- What is promised of bytes of which the first go.
pub mod Left
