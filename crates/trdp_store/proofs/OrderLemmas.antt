-- Lemmas on the schedule, whose orders are those of the objects that will fire.
pub mod Counts
pub mod Grown
pub mod Added
pub mod Removed
pub mod Changed
pub mod Emptied
pub mod Rooms
pub mod Over
