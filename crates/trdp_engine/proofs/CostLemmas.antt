-- Lemmas on what an event costs at most.
pub mod Moments
pub mod Bounds
