pub mod Result
pub mod Promise
pub mod Names
pub mod Stage
pub mod Translated
