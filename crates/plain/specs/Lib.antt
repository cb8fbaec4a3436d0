-- The plain engine of 02, C-13: sixty-four one-input machines, the list of the events offered, the history of the events made. Read in this order.
-- docs/PLAIN.md tells the same in plain words.
pub mod Machine
pub mod Events
pub mod Plain
pub mod Sequence
pub mod Beside
