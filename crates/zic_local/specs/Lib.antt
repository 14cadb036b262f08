pub mod Due
pub mod ScheduleLaws
pub mod Weekdays
pub mod Choice
pub mod code
pub mod Index
pub mod Laws
pub mod LocalTime
