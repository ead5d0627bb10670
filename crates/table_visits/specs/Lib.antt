-- In reading order.
pub mod Working
pub mod Visits
