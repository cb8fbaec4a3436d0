-- What moves the lines of an image in place.
pub mod service
pub mod events
