-- The laws of strip over a graph by value.
pub mod Freed
