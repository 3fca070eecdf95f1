-- Lemmas on acts of objects: of several of a slot, and of one slot of all, whose quotas stay.
pub mod AnyOrder
pub mod OneSlot
pub mod Quotas
