-- In reading order.
pub mod Kids
pub mod Fins
pub mod Views
