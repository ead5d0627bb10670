-- In reading order.
pub mod Expected
pub mod Shown
