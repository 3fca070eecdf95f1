pub mod Orders
pub mod Contents
pub mod Heap
pub mod Costs
pub mod Levels
