-- A trace of a bench day, what playing and salvaging it gives (02, C-11, C-23), and when these are refused, as definitions over the rules.
pub mod Trace
pub mod Blocks
pub mod Played
pub mod plays
pub mod salvages
pub mod Refusals
