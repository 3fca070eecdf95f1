pub mod ReadLemmas
pub mod TextLemmas
