-- Definitions for the code of this crate and for proofs. No contract of an exported function cites them.
pub mod Groups
pub mod Rounds
pub mod Run
pub mod Short
