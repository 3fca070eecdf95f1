pub mod NameLemmas
pub mod NodeLemmas
pub mod Owning
pub mod ReadLemmas
pub mod RecordLemmas
