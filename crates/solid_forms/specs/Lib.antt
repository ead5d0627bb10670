-- In reading order.
pub mod Reached
pub mod OfMaps
pub mod Motion
pub mod LaminaForm
pub mod SweepForm
pub mod PrismForm
pub mod BlockForm
pub mod Planes
pub mod Worked
