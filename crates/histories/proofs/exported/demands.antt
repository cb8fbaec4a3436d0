-- What was asked for in prose of exported calls one after another, as theorems over the definitions alone.
pub mod FromCalls
pub mod HandedBack
pub mod Dropped
pub mod ClearedCalls
pub mod Losses
pub mod Copy
pub mod Convert
pub mod Moved
pub mod ReadAlike
pub mod LeavesAccepted
pub mod BothParts
