-- The theorems of this crate cite the definitions of sheets and tallies; here is what they speak of between the two.
pub mod Slots
pub mod Finish
pub mod tallies
pub mod days
