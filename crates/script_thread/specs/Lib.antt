-- In reading order.
pub mod WellFormed
pub mod Thread
pub mod Names
pub mod Orders
pub mod Walked
pub mod Journals
