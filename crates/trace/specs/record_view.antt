-- What a view shows, in the terms of traces.
pub mod Showing
