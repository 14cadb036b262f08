pub mod SameBytes
pub mod Counts
pub mod lookups
pub mod links
pub mod faults
pub mod sound
pub mod events
pub mod reading
