-- Definitions for the code of this crate and for proofs. No contract of an exported function cites them.
pub mod Offsets
pub mod Written
pub mod Listing
pub mod Listed
pub mod Walk
