pub mod Row
pub mod Lengths
pub mod Condition
