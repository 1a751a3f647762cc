-- The laws of run over a graph by value.
pub mod Fenced
