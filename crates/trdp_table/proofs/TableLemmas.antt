-- Lemmas on the table: slots and pool together, as they are seen from outside.
pub mod Seen
pub mod Owners
pub mod Found
pub mod Kept
pub mod SeenChanges
pub mod Known
pub mod Opened
