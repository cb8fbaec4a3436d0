-- The saved image as definitions: its forms and its bytes. The reader's guide stands in rules/specs/Lib.antt, and what comes before this too.
pub mod Form
pub mod Image
