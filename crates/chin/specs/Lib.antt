pub mod Turn
pub mod Chin
pub mod Promise
pub mod Rows
pub mod Lent
pub mod Refusals
pub mod Examples
