pub mod FaultLineLemmas
pub mod StreamLemmas
pub mod LookLemmas
pub mod ReportLemmas
pub mod AttendLemmas
pub mod ServeLemmas
