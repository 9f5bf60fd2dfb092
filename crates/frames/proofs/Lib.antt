pub mod Division
pub mod Together
pub mod Alike
pub mod Small
pub mod Calls
