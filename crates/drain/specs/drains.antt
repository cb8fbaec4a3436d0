-- What a drain promises, in the rules' terms.
pub mod Drained
