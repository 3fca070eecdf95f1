pub mod Codes
pub mod EventOf
pub mod RecordOf
pub mod Outcomes
pub mod Openings
pub mod Owning
pub mod Reading
