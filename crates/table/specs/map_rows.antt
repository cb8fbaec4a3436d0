-- What a row of the printed map is.
pub mod Rows
