-- Lemmas on the pool: its keys, their places in the slab, and the free ones.
pub mod Places
pub mod Changes
pub mod Growth
