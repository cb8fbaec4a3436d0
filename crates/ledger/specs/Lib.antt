-- What the contracts of this crate cite beside the definitions of passes.
pub mod cells
pub mod follow
pub mod totals
pub mod watch
pub mod watch_write
