-- The mathematics of the walk: the search, step by step; the search and the routes of a graph.

pub mod Lent
pub mod Visited
pub mod Tried
pub mod Carried
pub mod Soundness
pub mod Completeness
pub mod Sought
pub mod First
pub mod Judged
pub mod Unique
