pub mod Counts
pub mod Globals
pub mod Telegrams
pub mod Addresses
pub mod PdFilters
pub mod MdFilters
