-- In reading order.
pub mod Fields
pub mod Commands
pub mod Operands
