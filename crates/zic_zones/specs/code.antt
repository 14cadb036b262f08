-- Definitions for the code of this crate and for proofs. No contract of an exported function cites them.
pub mod Known
pub mod NameKeys
pub mod Near
pub mod Numbered
pub mod Ready
pub mod Tables
pub mod Texts
