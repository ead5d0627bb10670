pub mod OnShapes
pub mod Computed
pub mod NotSound
