-- What the rounds of a play promise, in the terms of traces and plays.
pub mod Played
