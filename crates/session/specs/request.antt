-- What a line asks for.
pub mod Requests
