pub mod AbstractTypes
pub mod AllRules
pub mod Circles
pub mod KnownConstraints
pub mod Within
