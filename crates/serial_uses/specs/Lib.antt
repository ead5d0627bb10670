-- In reading order.
pub mod WorkedRuns
