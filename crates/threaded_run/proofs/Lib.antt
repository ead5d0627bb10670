mod Through
mod Closing
