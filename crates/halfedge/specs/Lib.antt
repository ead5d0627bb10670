-- In reading order.
pub mod LinkedRings
pub mod Splices
