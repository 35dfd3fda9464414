pub mod Lines
pub mod Rising
pub mod Whole
pub mod ReadBack
pub mod Digits
