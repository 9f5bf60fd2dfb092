pub mod Name
pub mod Search
pub mod Layout
pub mod Store
pub mod Symbols
pub mod Contract
pub mod Lookups
