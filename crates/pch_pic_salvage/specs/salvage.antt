-- How a salvage ends, in the terms of salvages.
pub mod Ends
