pub mod Failures
pub mod News
pub mod Ports
pub mod Refusals
pub mod Sockets
pub mod Told
