pub mod Staff
pub mod Salary
pub mod ByKind
pub mod TypeLost
pub mod Owners
