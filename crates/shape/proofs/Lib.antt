mod Scan
mod ReadScan
pub mod Within
mod Turns
mod Writes
mod Blanks
pub mod Alike
pub mod Outputs
