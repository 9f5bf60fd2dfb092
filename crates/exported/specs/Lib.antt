pub mod Packed
pub mod Framed
pub mod Turned
pub mod Shaped
pub mod Heights
pub mod Trial
pub mod Named
pub mod Token
