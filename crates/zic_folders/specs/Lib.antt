pub mod Ending
pub mod Verifying
