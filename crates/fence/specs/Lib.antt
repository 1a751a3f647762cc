-- What the public operations promise.
pub mod Demands
pub mod Samples
