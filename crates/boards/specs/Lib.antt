-- A board of 256 lines (02, C-20): its counts, the exported calls that keep one, when these are refused, and the order in which a second board hears events.
pub mod Board
pub mod Boarding
pub mod Refusals
pub mod Hearing
pub mod Collected
