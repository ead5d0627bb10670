pub mod Places
pub mod Sessions
pub mod Stepping
pub mod Beginnings
pub mod Running
