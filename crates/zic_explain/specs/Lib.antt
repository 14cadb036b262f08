pub mod Explanation
pub mod Nearest
pub mod Shown
