-- In reading order.
pub mod Read
pub mod Classes
pub mod Around
pub mod RingPlaces
pub mod Kids
mod Told
