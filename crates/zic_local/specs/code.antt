-- Definitions for the code of this crate and for proofs. No contract of an exported function cites them.
pub mod Search
pub mod Indexing
pub mod Walk
