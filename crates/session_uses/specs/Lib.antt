-- In reading order.
pub mod NoBodies
pub mod Idle
