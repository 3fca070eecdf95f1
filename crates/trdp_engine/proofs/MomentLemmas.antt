-- Lemmas on a moment: one object fires, and then all the others that are due.
pub mod OneFires
pub mod AllFire
