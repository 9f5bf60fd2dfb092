pub mod Fields
pub mod Heads
pub mod Alike
pub mod Promise
