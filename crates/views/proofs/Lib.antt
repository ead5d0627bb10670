-- In reading order.
pub mod Given
pub mod Onward
