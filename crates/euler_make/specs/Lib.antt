-- In reading order.
pub mod FirstFins
pub mod Cutting
pub mod Raising
