-- In reading order.
pub mod Elements
pub mod Each
pub mod Lengths
