-- 01's worked session and its marked dozen, computed.
pub mod demands
