pub mod MonthLaws
pub mod TableLaws
pub mod CenturyLaws
pub mod CalendarLaws
pub mod DayLaws
pub mod Determined
