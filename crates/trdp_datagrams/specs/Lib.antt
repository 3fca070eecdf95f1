pub mod Noted
pub mod Sought
pub mod Meant
