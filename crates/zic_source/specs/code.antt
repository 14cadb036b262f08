-- Definitions for the code of this crate and for proofs. No contract of an exported function cites them.
pub mod Adding
pub mod Lines
pub mod Sets
pub mod Owners
pub mod Chains
pub mod Faults
pub mod Source
pub mod Reader
pub mod Events
