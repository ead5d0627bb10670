-- In reading order.
pub mod Refusals
pub mod Rows
pub mod Own
pub mod Path
pub mod Making
pub mod Steps
pub mod LaminaDone
pub mod Upper
pub mod PrismSteps
pub mod PrismDone
pub mod RowKinds
