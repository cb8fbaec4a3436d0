-- What a record of the recorded answers says, and when a call agrees with it.
pub mod Records
