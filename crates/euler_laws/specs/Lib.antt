-- In reading order.
pub mod Operators
pub mod Both
pub mod Operands
pub mod WorkedNames
