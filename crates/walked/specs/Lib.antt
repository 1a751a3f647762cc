-- What an unordered route by its edges is, what the search for one has found, and its edges step by step.
pub mod Unordered
pub mod Steps
