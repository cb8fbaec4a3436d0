-- What the call that a record is promises, in the terms of traces.
pub mod Callable
