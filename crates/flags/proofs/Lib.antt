-- The laws of words as sets, for what stands above.
pub mod Digit
pub mod Put
pub mod Pair
pub mod Least
pub mod Same
