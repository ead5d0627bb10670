-- In reading order.
mod Entries
mod Resting
mod Locking
mod Seating
mod Blocks
mod Acting
mod Counts
mod Opening
mod Leaving
