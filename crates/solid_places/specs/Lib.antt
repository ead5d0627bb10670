-- In reading order.
pub mod Live
pub mod Placed
pub mod Points
