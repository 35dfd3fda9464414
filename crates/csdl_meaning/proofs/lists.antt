pub mod Rising
pub mod Stable
