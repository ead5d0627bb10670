-- In reading order.
pub mod LinkedRings
pub mod FinLinks
pub mod Joined
pub mod RingFins
pub mod Among
pub mod ManyRings
pub mod Stages
pub mod Ends
pub mod Insert
pub mod Split
pub mod Join
pub mod Cut
pub mod Walks
pub mod Labelled
