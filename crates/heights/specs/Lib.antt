pub mod Judgement
pub mod Pass
pub mod Marks
pub mod Chunks
pub mod Proposal
pub mod Promise
pub mod Lent
