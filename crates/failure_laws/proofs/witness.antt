pub mod facts
pub mod regions
pub mod Computed
pub mod Links
pub mod Shown
