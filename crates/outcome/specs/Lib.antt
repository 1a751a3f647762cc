-- What the public operations return and leave in the lent buffer.
pub mod Outcome
