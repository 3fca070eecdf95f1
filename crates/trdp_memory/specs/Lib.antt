pub mod MemoryClocks
pub mod MemoryConnections
pub mod MemoryFolders
pub mod MemorySockets
pub mod MemoryWires
pub mod Rows
pub mod Waiting
