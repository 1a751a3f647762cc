-- The definitions that this crate's contracts cite, and what is left of a route, step by step.
pub mod Rest
