-- In reading order.
pub mod Checks
pub mod Making
