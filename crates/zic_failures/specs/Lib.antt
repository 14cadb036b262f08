pub mod Expectation
pub mod Place
pub mod Underlined
