-- What only the proofs of this crate's code use. No public contract cites it.
pub mod Layout
pub mod Taking
