-- Lemmas on the index by session, which is the image of the callers and repliers.
pub mod Emptied
pub mod Kept
pub mod Keys
pub mod Open
pub mod Owners
