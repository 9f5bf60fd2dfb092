pub mod Frames
pub mod Promise
pub mod Together
pub mod Examples
