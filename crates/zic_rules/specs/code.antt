-- Definitions for the code of this crate and for proofs. No contract of an exported function cites them.
pub mod Period
pub mod Faults
pub mod Shown
pub mod Tail
pub mod End
pub mod Held
pub mod Line
pub mod Walk
