pub mod Differences
pub mod Blocks
pub mod Performing
pub mod Joining
pub mod MarkLists
pub mod Named
pub mod Ours
pub mod Walks
pub mod WorkSteps
mod CallSteps
pub mod Loads
pub mod Going
pub mod Removing
pub mod Keeping
pub mod ActReach
pub mod Valid
pub mod Draws
