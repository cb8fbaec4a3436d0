-- What reading digits gives.
pub mod Reads
