pub mod ContentLines
pub mod Changes
pub mod NearChanges
pub mod Laws
pub mod Text
pub mod Years
pub mod code
