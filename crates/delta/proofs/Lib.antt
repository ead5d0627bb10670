-- In reading order.
pub mod Places
pub mod Leads
pub mod Merged
pub mod Applied
