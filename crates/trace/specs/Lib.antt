-- What the functions of this crate hand back, in the terms of traces.
pub mod Found
pub mod record_bytes
pub mod record_view
pub mod blocks
pub mod contents
