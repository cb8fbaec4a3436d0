-- What 01 says of closed numbers, by computing.
pub mod Dozen
pub mod WorkedSession
