-- When each number is handed back, in the words of 01 and 02: what can be wrong with an image, and the tables of refusals of the six calls, of a conversion and of the call that tells who waits.
pub mod Wrong
pub mod Refusals
