-- The state as the rules see it.
pub mod View
