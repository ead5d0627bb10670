-- In reading order.
pub mod Entries
pub mod Named
pub mod Names
pub mod Seats
pub mod Steps
pub mod Rule
pub mod Slots
pub mod Tells
pub mod Turns
pub mod Faces
pub mod Calls
pub mod Ends
