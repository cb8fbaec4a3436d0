-- The six calls on an image.
pub mod accepted_input
pub mod reset_drain
