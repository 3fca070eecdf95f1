pub mod StoreLemmas
pub mod ComLemmas
pub mod OrderLemmas
pub mod DueLemmas
pub mod SessionLemmas
