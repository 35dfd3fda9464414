pub mod Following
pub mod KeptRows
pub mod InKeyOrder
pub mod Planning
pub mod Passed
pub mod Composed
pub mod SameKept
pub mod Accepted
