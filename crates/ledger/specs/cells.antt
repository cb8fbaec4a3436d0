-- What becomes of an event, as the plain engine notes it.
pub mod Fates
