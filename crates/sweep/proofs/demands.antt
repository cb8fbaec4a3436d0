-- What 02, C-24 says of a sweep, as theorems.
pub mod WakesAll
pub mod OfCalls
pub mod OfWaiting
