pub mod MemoryLemmas
pub mod ZoneStops
pub mod Checks
pub mod Elements
pub mod Lists
pub mod OrderedLists
pub mod Options
