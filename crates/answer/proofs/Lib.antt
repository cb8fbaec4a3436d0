-- answer
pub mod fronts
