-- Cyclic lists of tags, in reading order.
pub mod Neighbours
pub mod Cycles
pub mod Turned
pub mod Parted
