pub mod Form
pub mod Checked
pub mod Layout
pub mod Constants
pub mod Parts
pub mod Sections
