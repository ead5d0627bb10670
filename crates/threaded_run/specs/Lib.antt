-- In reading order.
pub mod Promise
