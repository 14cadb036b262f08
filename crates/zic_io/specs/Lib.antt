pub mod code
pub mod Faults
pub mod Output
pub mod Sources
pub mod Tree
pub mod Words
pub mod Failing
pub mod Laws
