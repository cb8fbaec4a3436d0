-- Marks, one input at a time.
pub mod Marking
pub mod Acting
pub mod Taken
pub mod Recording
pub mod Counting
pub mod Finishing
pub mod Bytes
pub mod Reading
pub mod Passing
pub mod Days
