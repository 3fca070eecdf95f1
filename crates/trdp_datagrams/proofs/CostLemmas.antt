-- Lemmas on what a telegram costs at most, and what acts cost.
pub mod Telegrams
pub mod Sessions
pub mod Acts
pub mod Sums
