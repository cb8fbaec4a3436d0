-- That the marks of a day come to its sheet.
pub mod laws
pub mod tallies
pub mod days
