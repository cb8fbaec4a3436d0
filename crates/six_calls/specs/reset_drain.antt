-- What the functions of this module promise beside the calls themselves.
pub mod Waits
