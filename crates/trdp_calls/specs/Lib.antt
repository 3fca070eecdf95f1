pub mod Asked
pub mod Spelled
