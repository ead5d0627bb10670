-- In reading order.
pub mod Written
pub mod lists
pub mod Reading
pub mod Room
