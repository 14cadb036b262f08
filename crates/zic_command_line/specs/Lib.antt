pub mod Instant
pub mod Release
