-- The difference of two numbers is the only one that C-19 admits, and its sign tells which event was made first; with the laws that the proofs cite.
pub mod Integers
pub mod Signed
pub mod OneDifference
pub mod OrderOfMaking
