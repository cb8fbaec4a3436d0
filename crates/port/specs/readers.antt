-- Bytes one after another, and how deep a cycle goes.
pub mod Bytes
pub mod Depths
