-- The laws of ask over a graph by value.
pub mod Shows
