-- The mathematics of the definitions.

pub mod Splits
pub mod Says
pub mod Lists
pub mod Ruled
pub mod Ordered
pub mod Route
pub mod Walked
pub mod Decide
pub mod Unique
pub mod Better
pub mod Exists
pub mod Written
pub mod Strip
pub mod Joined
pub mod Runs
pub mod Members
pub mod Value
pub mod Counted
pub mod Scan
pub mod Samples
