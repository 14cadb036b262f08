pub mod Footer
pub mod Grammar
pub mod Instants
pub mod Meaning
pub mod Laws
pub mod Parsing
pub mod Printing
pub mod code
