pub mod Openings
pub mod RestingWires
pub mod RestSteps
pub mod RunClocks
pub mod SocketWires
pub mod SystemSockets
