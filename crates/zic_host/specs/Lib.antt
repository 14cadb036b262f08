pub mod Sources
pub mod Status
