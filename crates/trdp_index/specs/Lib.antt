pub mod Ranks
pub mod Rows
pub mod Searches
pub mod Kept
pub mod ComRows
pub mod ComIndexes
pub mod SessionRows
pub mod SessionIndexes
