-- The exported calls as definitions: the window, the calls on bytes, the conversion, who waits; and of every exported call what a refusal leaves, and for which reasons there is one. The reader's guide stands in
-- rules/specs/Lib.antt, and what comes before this in images/specs.
pub mod Window
pub mod Calls
pub mod Convert
pub mod Waiting
pub mod Untouched
pub mod Reasons
