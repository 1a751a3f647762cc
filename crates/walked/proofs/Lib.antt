-- The mathematics of unordered routes by their edges: the edges that start at a node; edges one after the other; a table of what the edges lead to;
-- the edges of a route by its nodes.
pub mod Along
pub mod Chains
pub mod Fills
pub mod Edges
