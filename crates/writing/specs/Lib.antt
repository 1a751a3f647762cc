-- The definitions that this crate's contracts cite: what it is to write, and what is written.
pub mod Write
