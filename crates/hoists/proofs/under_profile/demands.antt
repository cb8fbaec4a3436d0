-- What 02, C-22 asks, as theorems.
pub mod Admits
pub mod Answers
pub mod ByNumber
pub mod Under
pub mod Handed
pub mod DemandThree
pub mod Phases
pub mod Ended
pub mod Phased
