-- In reading order.
pub mod Changes
pub mod Lists
pub mod Recording
pub mod OwnerLinks
pub mod Store
pub mod Recorder
pub mod Room
pub mod Kids
pub mod NextTags
pub mod Modeller
