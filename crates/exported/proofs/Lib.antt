pub mod Mapped
pub mod Fits
pub mod Sound
pub mod Framed
pub mod Conditions
pub mod Trial
pub mod Named
pub mod Shaped
