-- The definitions, in reading order: what fits, what is held, what is cut, what is written and taken off, what is claimed.
pub mod Fit
pub mod Graph
pub mod Held
pub mod Ask
pub mod Cut
pub mod Written
pub mod Strip
pub mod Refusal
pub mod Samples
pub mod Limits
pub mod Value
pub mod Scan
pub mod Tests
