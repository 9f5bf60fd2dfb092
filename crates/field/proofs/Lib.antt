pub mod Content
pub mod Before
pub mod First
pub mod Found
pub mod Same
pub mod Rows
pub mod Reading
pub mod EachField
