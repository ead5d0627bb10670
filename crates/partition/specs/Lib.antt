-- In reading order.
pub mod Partition
pub mod Work
pub mod Unsaved
pub mod Contents
pub mod Goes
