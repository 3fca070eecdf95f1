-- Lemmas on the index by comId, which is the image of the slots' objects.
pub mod Added
pub mod Removed
pub mod Kept
pub mod Counts
pub mod Emptied
