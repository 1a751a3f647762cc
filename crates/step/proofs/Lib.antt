-- The mathematics of a step, and of what is left of a route.
pub mod Rest
