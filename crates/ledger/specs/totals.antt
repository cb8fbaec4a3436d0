-- What is promised of a row that is looked at before it is joined.
pub mod Zeros
