-- Lemmas on what is due: which object fires first, when, and what room all need.
pub mod Room
pub mod Next
pub mod Soonest
pub mod First
