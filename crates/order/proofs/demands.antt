-- What 02, C-19 says of the order of events, as theorems.
pub mod Made
pub mod OfHistories
pub mod OfCalls
pub mod MadeFirst
pub mod ByDifference
