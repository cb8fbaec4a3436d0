-- The contract cites the definitions of sheets alone.
pub mod sheet
