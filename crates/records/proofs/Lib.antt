pub mod Track
pub mod Logged
pub mod Naming
pub mod LoggedAlike
pub mod Turns
