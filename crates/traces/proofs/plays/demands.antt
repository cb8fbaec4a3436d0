-- What 02, C-11 asks of playing, as theorems; and of playing on.
pub mod AfterEachOn
pub mod AfterEach
pub mod Accepted
pub mod ByNumber
pub mod Ended
pub mod EndedOn
pub mod OneAfterAnother
pub mod PlayedDay
pub mod Firsts
