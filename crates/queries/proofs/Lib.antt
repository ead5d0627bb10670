-- In reading order.
pub mod Listed
pub mod Owned
pub mod Told
pub mod LoopFins
pub mod BodyCounts
pub mod Exact
