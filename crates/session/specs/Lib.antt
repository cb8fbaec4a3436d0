-- What the input in chunks leaves.
pub mod Feeds
pub mod hex
pub mod request
pub mod reply
pub mod play_line
pub mod line_end
