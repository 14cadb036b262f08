pub mod Column
pub mod Ending
