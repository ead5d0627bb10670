-- In reading order.
pub mod PairBodies
pub mod PairLaws
pub mod WorkedWork
