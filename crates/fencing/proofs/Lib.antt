-- The laws of fences put on and taken off.
pub mod Keeping
pub mod Flags
pub mod Placed
pub mod Tops
pub mod Named
pub mod Going
pub mod Along
