-- What an answer says.
pub mod Says
