pub mod Pieces
pub mod ScriptRuns
pub mod ScriptSteps
pub mod ScriptText
pub mod Wants
pub mod Writes
