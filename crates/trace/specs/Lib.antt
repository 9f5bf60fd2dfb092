pub mod Log
pub mod Pass
pub mod Namer
pub mod Promise
