-- Edges that are made and killed, in reading order.
pub mod Corners
pub mod EdgeDeaths
pub mod EdgeMade
pub mod Ends
pub mod JoinedLoop
pub mod Chains
