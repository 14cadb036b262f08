pub mod Lines
pub mod Untils
pub mod InOrder
pub mod Sources
