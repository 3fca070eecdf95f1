-- Lemmas on the store's table: its slots, their objects, and the keys of these.
pub mod Keys
pub mod Slots
pub mod Counts
pub mod Found
pub mod OwnKeys
pub mod Kinds
pub mod Opened
pub mod Acts
pub mod OpenedSlots
