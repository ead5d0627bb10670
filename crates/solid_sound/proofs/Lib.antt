-- In reading order.
pub mod shapes
pub mod edges
pub mod rows
