-- The mathematics of the search for a route.
pub mod Listed
pub mod Ways
pub mod Linking
pub mod Backwards
pub mod Along
pub mod Spreads
pub mod Traced
