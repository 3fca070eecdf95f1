pub mod SlotLemmas
pub mod PoolLemmas
pub mod TableLemmas
