-- The hoist profile (02, C-22), as definitions over the rules and the histories: which calls it lets through, its four exported calls, when these are refused, and calls under it one after another.
pub mod Profile
pub mod Four
pub mod HoistCalls
pub mod Refusals
pub mod Hoisted
pub mod Phased
