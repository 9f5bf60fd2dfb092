pub mod Stores
pub mod Zeroed
pub mod Parts
pub mod Fields
pub mod Fresh
pub mod Raised
pub mod Sessions
