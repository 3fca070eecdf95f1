pub mod ApartLemmas
pub mod SocketLemmas
pub mod SocketWireLemmas
pub mod GroupPortLemmas
pub mod RestingWireLemmas
