-- Records that stand in a trace.
pub mod Reached
