pub mod Plan
pub mod Delimiter
pub mod Prefix
pub mod FieldList
pub mod RowField
pub mod Layout
pub mod Noted
