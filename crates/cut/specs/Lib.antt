-- What the search is given of a graph, and what the chosen cut is.
pub mod Given
pub mod Chosen
