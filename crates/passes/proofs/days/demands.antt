-- What 02, C-21 asks of a sheet.
pub mod Waits
pub mod Service
pub mod Drained
pub mod TakenBack
pub mod Fits
pub mod Exact
pub mod Played
pub mod Tallied
pub mod Firsts
