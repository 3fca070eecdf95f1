-- Lemmas on playing an event, and on writing what it gave.
pub mod Results
pub mod Written
