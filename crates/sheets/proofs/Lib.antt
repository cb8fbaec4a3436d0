-- What is proved of the sheet: laws, and the theorems.
pub mod laws
pub mod demands
