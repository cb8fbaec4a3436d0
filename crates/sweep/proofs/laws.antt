-- Lemmas about one input and one call of a sweep, for the theorems.
pub mod Quiet
pub mod OneInput
pub mod Announcing
pub mod Reading
pub mod Polls
pub mod Idle
