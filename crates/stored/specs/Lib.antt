-- The state stored as an image.
pub mod saves
