pub mod Answers
pub mod Paths
pub mod Places
pub mod ControlWires
pub mod Folders
