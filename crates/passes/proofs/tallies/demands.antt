-- What the calls of a tally refuse, and that each has one outcome, as theorems.
pub mod ByNumber
pub mod Once
