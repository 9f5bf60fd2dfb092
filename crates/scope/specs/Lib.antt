pub mod Walked
pub mod View
pub mod Machine
pub mod Emission
pub mod Code
pub mod Lent
