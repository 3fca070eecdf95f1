pub mod AddressLemmas
pub mod HexLemmas
pub mod NumberLemmas
pub mod ReportedLemmas
pub mod SessionLemmas
pub mod StatusLemmas
pub mod UriLemmas
