-- What a record does to the image buffer.
pub mod Replays
pub mod records
pub mod replay_call
