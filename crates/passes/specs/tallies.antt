-- What one pass over a trace keeps (02, C-21): the numbers of the sheet as they grow, and what each act of the device brings to them.
pub mod Grid
pub mod Marks
pub mod Following
pub mod Tally
pub mod Tallying
pub mod Refusals
