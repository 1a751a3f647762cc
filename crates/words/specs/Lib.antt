-- The definitions that this crate's contracts cite: which tables are a graph's, and what the rows of its rules are made from.
pub mod Words
pub mod Rows
