pub mod AsBox
pub mod Columns
pub mod Nearness
pub mod Refusals
