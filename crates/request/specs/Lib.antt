-- What a reader must believe: the request and its bytes, its records, what is wrong with them, what is proper, and what reading gives.
pub mod Answers
pub mod File
pub mod Raw
pub mod Bad
pub mod Proper
pub mod Outcome
pub mod Value
-- The code's side: the same by offsets and tests that compute.
pub mod Earliest
pub mod Layout
pub mod Tables
pub mod Decode
