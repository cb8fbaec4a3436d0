-- The tests' answers as the rules see them.
pub mod Tests
