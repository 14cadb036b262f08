pub mod Leads
pub mod Loops
pub mod Passes
pub mod NewNames
pub mod FirstLines
