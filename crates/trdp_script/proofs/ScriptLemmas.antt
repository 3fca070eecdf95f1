-- Lemmas on a script's way: a line, a piece of its input, all of it, and its end.
pub mod Endings
pub mod Fronts
pub mod Lines
pub mod OneLine
pub mod Pieces
pub mod Readings
pub mod Steps
