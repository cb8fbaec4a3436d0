-- The contracts of the calls cite the definitions of passes alone; here is what those below them cite.
pub mod soundness
pub mod adding
