-- In reading order.
pub mod Moving
pub mod Counted
pub mod Sought
pub mod Sums
pub mod Reached
pub mod RowKinds
