-- The sets that a step meets.
pub mod Sets
