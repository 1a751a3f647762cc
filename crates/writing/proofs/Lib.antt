-- The mathematics of writing.
pub mod Writing
