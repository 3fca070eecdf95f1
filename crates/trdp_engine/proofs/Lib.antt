pub mod ActLemmas
pub mod MomentLemmas
pub mod CostLemmas
pub mod NodeLemmas
