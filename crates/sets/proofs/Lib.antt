-- The laws of sets: of their words, of tables of sets, and of the lowest number in one and not in another.
pub mod Words
pub mod Rows
pub mod Leading
pub mod Onward
