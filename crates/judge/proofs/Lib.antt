-- The mathematics of the test of a proposed route.
pub mod Tested
