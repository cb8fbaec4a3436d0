-- Lemmas: the machines against the lines, the list against the ring, the plain engine against the ported one.
pub mod Machines
pub mod Queues
pub mod Same
pub mod Accesses
pub mod Following
pub mod Plainly
