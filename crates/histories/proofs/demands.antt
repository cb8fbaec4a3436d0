-- What was asked for in prose of calls one after another, as theorems over the definitions alone.
pub mod Cleared
pub mod Account
pub mod Service
pub mod Order
pub mod Exactly
pub mod Masked
pub mod Silent
