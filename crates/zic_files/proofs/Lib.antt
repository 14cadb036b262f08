pub mod Numbers
pub mod SameBytes
pub mod Added
pub mod Fits
pub mod Having
pub mod Learning
pub mod Staying
