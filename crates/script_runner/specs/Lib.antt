-- In reading order.
pub mod Statuses
pub mod Headline
pub mod Line
