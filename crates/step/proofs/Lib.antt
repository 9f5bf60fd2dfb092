pub mod Memory
pub mod Constants
pub mod FunctionConstants
pub mod Loads
pub mod Symbols
pub mod Functions
pub mod Closed
pub mod Framed
