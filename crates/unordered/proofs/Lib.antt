-- The mathematics of the search for an unordered route.
pub mod Pushed
pub mod Chained
pub mod Looked
pub mod WayBack
pub mod Trails
pub mod Turns
pub mod Ways
pub mod Going
