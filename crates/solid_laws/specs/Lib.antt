-- In reading order.
pub mod WorkedCalls
pub mod WorkedTriangle
pub mod WorkedRings
pub mod WorkedBlocks
pub mod WorkedPolygons
pub mod BlockForm
pub mod WorkedRoom
pub mod Unsound
