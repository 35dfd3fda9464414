pub mod Readable
pub mod Parts
pub mod Values
pub mod ReadBack
pub mod Telling
pub mod Whole
pub mod RoundTripping
