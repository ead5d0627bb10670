-- In reading order.
pub mod Found
pub mod WholeMaps
pub mod Grown
pub mod Linked
pub mod Search
pub mod Kept
pub mod Lines
pub mod Removed
pub mod Handed
pub mod Dropped
pub mod Moves
pub mod Costs
pub mod Ends
