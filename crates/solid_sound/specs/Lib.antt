-- In reading order.
pub mod Keeping
