pub mod Exact
pub mod clash
pub mod null
pub mod disagreement
pub mod rival
pub mod same
