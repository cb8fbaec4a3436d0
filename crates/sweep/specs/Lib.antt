-- One sweep wakes everything (02, C-24), as definitions over the rules and the histories.
pub mod Sweeps
pub mod Handed
pub mod Waited
