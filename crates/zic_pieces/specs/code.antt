-- Definitions for the code of this crate and for proofs. No contract of an exported function cites them.
pub mod Core
pub mod Whole
pub mod Rule
pub mod Work
pub mod Order
pub mod Crew
pub mod Stop
