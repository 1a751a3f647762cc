-- A graph and its open orders as the search reads them, and its result as the chosen cut.
pub mod Flagged
pub mod Gathered
pub mod Separated
pub mod Given
