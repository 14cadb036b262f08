-- Definitions for the code of this crate and for proofs. No contract of an exported function cites them.
pub mod Answer
pub mod Batch
pub mod Note
pub mod Pairs
pub mod Piece
pub mod Row
