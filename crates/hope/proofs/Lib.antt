-- The mathematics of the two tests for a way on: the quick one (Fallen, Hope, Reached), and the sharp one (Sifted).
pub mod Fallen
pub mod Hope
pub mod Reached
pub mod Sifted
