-- What the player promises, in the terms of traces and plays.
pub mod Plays
