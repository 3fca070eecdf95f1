pub mod Tables
pub mod TableLaws
pub mod Entries
pub mod SlotKept
pub mod Pools
pub mod TableKept
pub mod Lending
pub mod Refusals
