pub mod ChildLists
pub mod Writes
pub mod Linked
pub mod Attached
pub mod Detached
pub mod Walks
