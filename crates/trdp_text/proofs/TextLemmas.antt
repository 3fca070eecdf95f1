-- Lemmas on the text of records, faults and events.
pub mod Events
pub mod SomeText
pub mod TextLengths
