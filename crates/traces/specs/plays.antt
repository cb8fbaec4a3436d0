-- The exported calls that play a trace (02, C-11), as definitions over traces and the rules; and plays one after another.
pub mod Playing
pub mod InTurn
pub mod Firsts
