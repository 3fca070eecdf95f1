-- Lemmas on one slot: its entries by rising handle, their keys and the search for one.
pub mod Search
pub mod Kept
pub mod Keys
