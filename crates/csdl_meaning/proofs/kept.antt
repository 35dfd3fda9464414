pub mod KeptNames
pub mod KeptTypes
pub mod Given
pub mod Resolved
