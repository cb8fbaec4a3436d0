-- What the functions of this module hand back, in the terms of traces.
pub mod Found
