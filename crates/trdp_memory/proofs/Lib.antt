pub mod FirstLemmas
pub mod GiveRowLemmas
pub mod TakeRowLemmas
pub mod MemoryWireLemmas
pub mod ConnectionLemmas
pub mod WaitingLemmas
