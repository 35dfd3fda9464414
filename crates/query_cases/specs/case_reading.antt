pub mod Sources
pub mod Shown
pub mod Links
pub mod Reading
pub mod Noted
