pub mod NextTags
pub mod Represented
pub mod Reached
pub mod Deaths
pub mod Sizes
pub mod Kept
pub mod RowKinds
