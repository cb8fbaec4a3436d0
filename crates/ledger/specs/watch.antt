-- What is kept of the device, as the rules see it.
pub mod Kept
