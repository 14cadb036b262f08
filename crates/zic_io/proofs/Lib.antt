pub mod FaultLemmas
pub mod InputLemmas
pub mod LineLemmas
pub mod ListLemmas
pub mod OutputLemmas
pub mod SourceLemmas
