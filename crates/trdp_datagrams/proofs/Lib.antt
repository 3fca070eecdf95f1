pub mod CostLemmas
pub mod DatagramLemmas
pub mod NoteLemmas
