-- In reading order.
pub mod Blocks
pub mod Building
pub mod Entity
