-- The enums of the code as the rules see them.
pub mod Views
