-- What the tests of a ring's events look at.
pub mod Events
