-- What the test of a tally finds.
pub mod Found
