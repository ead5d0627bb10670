-- In reading order.
pub mod Return
pub mod WorkedMaps
pub mod WorkedJournals
pub mod WorkedCommands
pub mod WorkedOrders
pub mod WorkedReports
