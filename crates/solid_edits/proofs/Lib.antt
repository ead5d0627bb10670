-- In reading order.
pub mod Going
pub mod StaysRepresented
pub mod Hosted
pub mod PlacedAnew
pub mod EditedMaps
pub mod PlacedFins
pub mod Puts
pub mod KilledMaps
pub mod Stages
pub mod Dying
pub mod TagsPut
pub mod ManyDeaths
pub mod PartedRings
pub mod WrittenMaps
pub mod RemovedEdge
pub mod LoopsAnew
pub mod MadeEdges
