-- What only the proofs of the code use. No public contract cites it.
pub mod Cached
pub mod Written
pub mod Holding
pub mod Near
