-- The definitions that this crate's contracts cite. Hope: what the tests for a way on say of their sets. Ways: what they say of the ways on.
pub mod Hope
pub mod Ways
