-- Lemmas about the definitions, each stated once, over the width, the index or the list.
pub mod Sets
pub mod Serving
pub mod Halves
pub mod Maps
pub mod Widths
pub mod Writes
pub mod Losses
pub mod Images
pub mod InPlace
