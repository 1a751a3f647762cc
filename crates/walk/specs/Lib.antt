-- The definitions that this crate's contracts cite. Asked: what it shows of an order. Search: what it looks for at a node.
pub mod Asked
pub mod Search
