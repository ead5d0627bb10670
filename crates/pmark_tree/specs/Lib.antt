-- In reading order.
pub mod Marks
pub mod Maps
pub mod Trees
pub mod Paths
pub mod Walks
pub mod Rows
pub mod Removal
