-- Lemmas on records slot by slot.
pub mod Labels
pub mod Played
pub mod Rising
pub mod Slots
pub mod Walk
