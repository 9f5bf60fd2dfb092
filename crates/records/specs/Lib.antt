pub mod Kinds
pub mod Records
pub mod Naming
pub mod Call
pub mod Examples
