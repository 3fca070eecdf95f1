pub mod Attending
pub mod Checking
pub mod Faults
pub mod Programs
pub mod Reporting
pub mod ServiceWires
pub mod Serving
pub mod Streams
