-- The laws of outcomes: what a file that is read gives, refusals, one law for each way out of run, ask and strip, and no second outcome.
pub mod Reading
pub mod Refusals
pub mod Ran
pub mod Showing
pub mod Off
pub mod Unique
