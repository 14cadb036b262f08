pub mod NamesDiffer
pub mod ThreeEnds
pub mod Ways
pub mod Walks
