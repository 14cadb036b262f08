-- Definitions for the code of this crate and for proofs. No contract of an exported function cites them.
pub mod OccurrenceWalk
pub mod Nominals
pub mod Timed
pub mod Apart
pub mod Shared
pub mod Walk
pub mod Octets
pub mod Letters
pub mod Listed
