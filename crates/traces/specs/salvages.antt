-- Salvaging a damaged trace (02, C-23), as definitions over traces: the blocks that are kept, the trace that has them, and the exported call.
pub mod Kept
pub mod Salvaging
pub mod Which
