pub mod Put
pub mod PutAt
pub mod Reads
pub mod Measured
pub mod CheckThenList
