-- In reading order.
pub mod Faces
pub mod BareParts
pub mod Deaths
pub mod EditedLoops
pub mod NewEdges
pub mod RemovedEdges
