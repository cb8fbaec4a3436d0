-- The contracts cite the definitions of rules alone.
pub mod bytes
