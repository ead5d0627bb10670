-- In reading order.
pub mod Tags
pub mod Maps
pub mod State
pub mod Codes
pub mod Modelling
pub mod Step
pub mod Replay
pub mod Apart
pub mod Sessions
pub mod VertexBodies
