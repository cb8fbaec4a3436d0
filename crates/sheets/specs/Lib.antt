-- The day in exact numbers (02, C-21): a day of the plain engine, the sheet of its counts, the exported call that writes it, and when that is refused.
pub mod Day
pub mod Waits
pub mod Sheet
pub mod Sheeting
pub mod Refusals
