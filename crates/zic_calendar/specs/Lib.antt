pub mod Calendar
pub mod Weekday
pub mod DayForm
pub mod Civil
pub mod Laws
