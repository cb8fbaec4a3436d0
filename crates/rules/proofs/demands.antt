-- What was asked for in prose of one call, as theorems over the definitions alone. Crates calls and laws have those of an exported call and of an image.
pub mod EasyToGetWrong
pub mod Losses
pub mod Numbered
pub mod Copy
