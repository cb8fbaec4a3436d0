-- How adding and summing end.
pub mod Ended
