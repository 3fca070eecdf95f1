-- Lemmas on calls: what a call at one object changes, requests that are sent, and the items of
-- looks.
pub mod Acts
pub mod Requests
pub mod Shown
