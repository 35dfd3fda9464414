pub mod Clear
pub mod Refers
pub mod LedBack
pub mod BaseLinks
pub mod BaseValues
pub mod BaseFor
pub mod OuterRow
pub mod Stated
