-- The numbers of events as positions in the order of making (02, C-19), as definitions over the rules and the histories.
pub mod Fates
pub mod Numbered
pub mod Read
pub mod MadeFirst
pub mod Sorted
