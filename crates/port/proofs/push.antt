-- The laws that the proof of this module cites.
pub mod Behind
