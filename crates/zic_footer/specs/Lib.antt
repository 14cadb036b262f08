pub mod code
pub mod Making
