-- In reading order.
pub mod Views
pub mod Inside
pub mod Slots
pub mod Holding
pub mod Locks
pub mod Draws
pub mod Seats
pub mod Ends
