-- In reading order.
pub mod Listing
pub mod Formula
