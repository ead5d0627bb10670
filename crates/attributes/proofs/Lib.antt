pub mod Walked
pub mod Found
pub mod Written
pub mod Carried
pub mod Dropping
