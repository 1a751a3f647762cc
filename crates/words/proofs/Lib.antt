-- The mathematics of the tables: how they are filled, what the rules' rows are made from, and that they are then a graph's.
pub mod Fill
pub mod Parts
pub mod Made
