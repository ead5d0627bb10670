-- In reading order.
pub mod Entities
