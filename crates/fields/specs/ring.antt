-- An event, and what it is to offer one.
pub mod Fields
