-- Lemmas on the whole node: a datagram that it admits, its runs, and what it counts.
pub mod Admitted
pub mod Latest
pub mod Runs
