-- Definitions for the code of this crate and for proofs. No contract of an exported function cites them.
pub mod Cached
pub mod PlainNumber
pub mod Lanes
pub mod March
pub mod Civils
pub mod Iso
pub mod Clock
