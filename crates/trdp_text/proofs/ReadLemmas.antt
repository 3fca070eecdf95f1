-- Lemmas on reading a line: its words, their values, and the form that they have.
pub mod Fields
pub mod Forms
pub mod OperatorLines
pub mod Ports
pub mod Statuses
pub mod Words
