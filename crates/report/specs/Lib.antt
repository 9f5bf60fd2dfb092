pub mod Fresh
pub mod Recorded
