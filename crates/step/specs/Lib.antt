pub mod Memory
pub mod Contract
pub mod Frame
pub mod Lent
