-- Definitions for the code of this crate and for proofs. No contract of an exported function cites them.
pub mod After
pub mod StoredContent
pub mod Parts
pub mod Stored
pub mod Window
