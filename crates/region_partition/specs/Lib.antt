pub mod region_lists
pub mod region_search
pub mod mapping_limits
pub mod set_regions
