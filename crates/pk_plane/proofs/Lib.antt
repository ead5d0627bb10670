-- In reading order.
pub mod Within
pub mod Exact
pub mod Searches
pub mod Areas
