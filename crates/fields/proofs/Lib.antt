-- The fields of an image, read and written in place.
pub mod inplace
