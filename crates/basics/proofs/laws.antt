-- Lemmas about the definitions, each stated once, over the width, the index or the list.
pub mod Truth
pub mod Bits
pub mod Inputs
pub mod Lists
pub mod Bytes
pub mod Parts
