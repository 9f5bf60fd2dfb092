pub mod Table
pub mod Decoding
pub mod Encoding
pub mod Words
pub mod Instructions
