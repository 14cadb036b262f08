-- Definitions for the code of this crate and for proofs. No contract of an exported function cites them.
pub mod Reading
pub mod Text
pub mod State
pub mod Span
pub mod Inside
pub mod Years
