-- The contracts cite the definitions of plays alone.
pub mod record_call
pub mod record_step
pub mod play_records
pub mod play_trace
