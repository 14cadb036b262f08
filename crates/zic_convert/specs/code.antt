-- Definitions for the code of this crate and for proofs. No contract of an exported function cites them.
pub mod Halt
pub mod Memory
pub mod Pieces
pub mod Progress
pub mod Row
pub mod Written
