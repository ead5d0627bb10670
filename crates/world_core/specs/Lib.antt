-- In reading order.
pub mod Event
pub mod World
pub mod Session
pub mod Runs
pub mod Doing
pub mod Inside
