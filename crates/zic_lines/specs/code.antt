-- Definitions for the code of this crate and for proofs. No contract of an exported function cites them.
pub mod Parts
pub mod Texts
pub mod Taken
pub mod LineParts
pub mod Entries
