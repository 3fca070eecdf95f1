pub mod HalvingLemmas
pub mod RankLemmas
pub mod RowLemmas
pub mod SearchLemmas
pub mod RunLemmas
pub mod SlotLemmas
