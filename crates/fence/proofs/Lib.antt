-- What is promised of the public operations.
pub mod Again
pub mod Demands
pub mod Samples
pub mod Told
pub mod Main
