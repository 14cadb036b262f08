pub mod Order
pub mod Whole
pub mod OneFault
pub mod FirstFault
pub mod Earlier
pub mod Found
pub mod OfLinks
