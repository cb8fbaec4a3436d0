-- The drain of an image in place.
pub mod move_up
pub mod shifts
pub mod weave
pub mod events_out
pub mod drains
