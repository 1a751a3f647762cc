-- The mathematics of the search for the lightest set of edges.
pub mod Weights
pub mod Fore
pub mod Mapped
pub mod Grown
pub mod Residues
pub mod Bounding
pub mod Tried
pub mod Listed
pub mod Flags
