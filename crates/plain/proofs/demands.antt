-- What was asked for of the plain engine.
pub mod SameEngine
pub mod SameCalls
pub mod History
pub mod Alone
pub mod Fates
