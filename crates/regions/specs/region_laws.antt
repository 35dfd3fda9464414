pub mod IsBasis
pub mod RegionAt
pub mod Counting
pub mod Concrete
pub mod Partners
pub mod Held
pub mod pattern
