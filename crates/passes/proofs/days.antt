-- What holds of the sheet of a day: laws, and the theorems.
pub mod laws
pub mod demands
