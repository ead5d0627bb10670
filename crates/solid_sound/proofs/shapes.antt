-- Sound shapes: what stands in them, and shapes in which items were written or killed. In reading order.
pub mod Reading
pub mod OnlyShape
pub mod Lookups
pub mod Sums
pub mod Names
pub mod Bodies
pub mod Bones
pub mod Numbers
pub mod Attributes
pub mod AttributeBodies
pub mod EachItem
pub mod Found
pub mod Edits
pub mod Frames
pub mod FinRings
pub mod ByClass
pub mod LiveNames
