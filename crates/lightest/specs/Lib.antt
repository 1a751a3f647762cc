-- What the search for the lightest set of edges says of sets of edges, and of its results.
pub mod Sets
pub mod Made
pub mod Apart
pub mod Search
