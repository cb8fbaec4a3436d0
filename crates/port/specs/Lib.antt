-- The port of loongarch_pch_pic.rs of axdevice 0.8.5: what moves lines, queues events, and reads and writes registers.
pub mod irq_level
pub mod drain_output
pub mod readers
pub mod write_cell
pub mod mask_and_clear
pub mod events_for_mask
pub mod push
pub mod pop
