pub mod YearLemmas
pub mod DateLemmas
pub mod WeekdayLemmas
pub mod FormLemmas
