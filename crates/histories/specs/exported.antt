-- Demand 3 of exported calls as definitions: which of them are a history, what a host reads, and which images are alike.
pub mod Exported
pub mod Alike
pub mod Forms
