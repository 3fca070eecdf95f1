pub mod NodeStates
pub mod NodeRuns
pub mod Costs
