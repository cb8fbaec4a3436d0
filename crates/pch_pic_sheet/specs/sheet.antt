-- What is made of a trace, in the terms of traces and sheets.
pub mod Made
