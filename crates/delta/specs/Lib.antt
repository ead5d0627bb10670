-- In reading order.
pub mod Deltas
pub mod Composed
