-- The laws of lists that the proofs here use.
mod Front
