pub mod DivisionLemmas
pub mod FrameCheckLemmas
pub mod PieceLemmas
pub mod LookUpLemmas
pub mod ZeroLemmas
pub mod DamageLemmas
