-- What loading the numbers promises.
pub mod Numbers
