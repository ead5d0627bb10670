-- In reading order.
pub mod Points
pub mod Vertices
