-- What a route by its edges is, and what the search for one has found.
pub mod Linked
pub mod Way
pub mod Spread
