-- What playing a line leaves.
pub mod Plays
