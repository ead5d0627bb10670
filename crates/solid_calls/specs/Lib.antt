-- In reading order.
pub mod Attributes
pub mod Pairs
