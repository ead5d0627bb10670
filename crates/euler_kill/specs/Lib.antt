-- In reading order.
pub mod Below
