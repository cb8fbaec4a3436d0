-- The text of a session, and 01's marked dozen of calls. The reader's guide stands in rules/specs/Lib.antt.
pub mod Session
pub mod Dozen
