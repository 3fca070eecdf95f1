pub mod Bits
pub mod Damage
pub mod Division
pub mod FrameCheck
pub mod Register
