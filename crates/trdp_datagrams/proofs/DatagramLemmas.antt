-- Lemmas on what the objects that were noted do with a telegram.
pub mod Deeds
pub mod Taken
pub mod Requests
pub mod Handed
pub mod HandedInTurn
pub mod AskedInTurn
