-- What the theorems about a sheet speak of.
pub mod Accounts
pub mod Parts
