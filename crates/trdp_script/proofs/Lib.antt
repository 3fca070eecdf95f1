pub mod ScriptLemmas
pub mod PlayLemmas
