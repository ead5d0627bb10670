-- In reading order.
pub mod Sizes
pub mod Vectors
pub mod Turns
pub mod Polygons
