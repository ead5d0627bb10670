-- In reading order.
pub mod Serial
pub mod Reached
pub mod Ends
pub mod Orders
